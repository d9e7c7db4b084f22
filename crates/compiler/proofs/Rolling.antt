-- Where a function's records stand in a table, the walk lays it, keeps its parameters, and stands at the next; and so for all of them. Assumes nothing.
use mathlib.Core.Path.{◌≡◌, refl, sym, ap, ◌∙◌}
use mathlib.Core.List.{List, [], ◌∷◌}
use Prim.Native.Nat.{ℕ, suc, ◌+◌, min}
use native.Mathlib.Omega.{arith}
use native.Mathlib.Numerals.{add-one}
use lib.ListN.{length, get_or, set as keep}
use Rattle.word.specs.Records.{rec}
use Rattle.word.specs.declared.Record.{Record}
use Rattle.script.specs.Tree.{Func, size_f, size_s}
use Rattle.script.specs.Parse.{entered, passed}
use Rattle.script.specs.Written.{list_s, list_funcs, head_of, InFunc, InFuncs, none_left, one_more}
use Rattle.script.specs.declared.Env.{Env}
use Rattle.script.proofs.Leading.{from}
use Rattle.scoping.proofs.Found.{finds}
use Rattle.tape.specs.Instruction.{Code, cfunc, ret}
use Rattle.tape.specs.Tape.{tape_e, tape_s}
use Rattle.tape.specs.Held.{hold}
use Rattle.translation.specs.Translate.{layout, STT, FDEFT}
use Rattle.emitting.specs.Emitting.{Sheet, puts, lay_s}
use Rattle.emitting.specs.Walking.{Desk, desk, on}
use Rattle.compiler.specs.Writing.{rolls, heads, body_of, walk_f, walk_fs}
use Rattle.compiler.proofs.Tables.{walk_f_found}
use Rattle.compiler.proofs.Walked.{stmt_walked}
use Rattle.compiler.proofs.Laying.{run, run_s}

-- ---- one function, its CFUNC with the depth that is given
unfoldable pub lay_f : ℕ → Func → Sheet → Sheet
lay_f deep g s = puts (ret g.slots) (lay_s (STT (layout g.slots) 0 g.body) (heads g.params g.slots deep s))

unfoldable pub code_f : ℕ → Func → Code → Code
code_f deep g c = cfunc g.params (hold (g.slots + 2 + deep)) ∷ tape_s (FDEFT g).body (ret g.slots ∷ c)

run_f : (deep : ℕ) (g : Func) (c : Code) (s : Sheet) → run (code_f deep g c) s ≡ run c (lay_f deep g s)
unfolding code_f lay_f FDEFT heads tape_s tape_e run
run_f deep g c s = run_s (STT (layout g.slots) 0 g.body) (ret g.slots ∷ c) (heads g.params g.slots deep s)

-- ---- all functions, each CFUNC with the depth that the row says
unfoldable pub code_fs : List ℕ → ℕ → List Func → Code
code_fs deeps f [] = []
code_fs deeps f (g ∷ gs) = code_f (get_or deeps f 0) g (code_fs deeps (suc f) gs)

module _ (t deeps : List ℕ) where
  func_walked : (v : Env) (g : Func) (s : Sheet) (at : ℕ) {rest : List Record} → InFunc v g → from t at ≡ rec 3 g.params g.slots 0 ∷ list_s g.body rest
      → (walk_f t deeps v.func (rolls (desk s at) v.params) ≡ rolls (desk (lay_f (get_or deeps v.func 0) g s) (at + size_f g)) (keep v.params v.func g.params))
      × (from t (at + size_f g) ≡ rest)
  unfolding size_f lay_f body_of entered
  func_walked v g s at {rest} h is =
      let f = v.func in
      let n = g.slots in
      let end = at + suc (size_s g.body) in
      let z = rolls (desk s at) v.params in
      let (read, then) = finds t at is in
      let begun = heads g.params n (get_or deeps f 0) s in
      let (q, after) = stmt_walked t (entered v (head_of g)) n g.body 16 0 (at + 1) end begun then h.deep h.body (omega arith) in
      let few : min n 32 ≡ n = omega (arith, h.slots) in
      let body : body_of t deeps f (min n 32) (rec 3 g.params n 0) (record { at = at + 1 }) z ≡ desk (lay_f (get_or deeps f 0) g s) end =
      ap (λ (k : ℕ). body_of t deeps f k (rec 3 g.params n 0) (record { at = at + 1 }) z) few ∙ ap (on (puts (ret n))) q in (
        walk_f_found t deeps f z _ _ read ∙ ap (λ (b : Desk). rolls b (keep v.params f g.params)) body,
        after,
      )

  -- the words that they leave are those of their code
  pub funcs_walked : {v : Env} {fs : List Func} → InFuncs v fs → (s : Sheet) (at : ℕ) → from t at ≡ list_funcs fs
      → walk_fs t deeps (length fs) v.func (rolls (desk s at) v.params) ≡ (run (code_fs deeps v.func fs) s).words
  unfolding passed list_funcs walk_fs code_fs run
  funcs_walked none_left s at is = refl
  funcs_walked {v = v} (one_more {f = g} {fs = gs} h r) s at is =
      let f = v.func in
      let (one, then) = func_walked v g s at h is in
      (λ j. walk_fs t deeps (length gs) (add-one f j) (one j)) ∙ funcs_walked r (lay_f (get_or deeps f 0) g s) (at + size_f g) then
      ∙ ap (λ (z : Sheet). z.words) (sym (run_f (get_or deeps f 0) g (code_fs deeps (suc f) gs) s))
