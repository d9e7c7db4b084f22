-- The row of deepest IF nestings: after the count it says each function's, and a walk that finds it so writes each CFUNC as the translation has it.
-- Assumes nothing.
use mathlib.Core.Path.{◌≡◌, refl, ap, ◌∙◌}
use mathlib.Core.List.{List, [], ◌∷◌, map}
use Prim.Native.Nat.{ℕ, suc, ◌+◌, ◌≤◌, ◌<◌}
use native.Mathlib.Omega.{arith}
use lib.ListN.{length, get_or, set as keep, length-set}
use lib.Seq.{get_or-set_same, get_or-set_other}
use Rattle.script.specs.Tree.{Func}
use Rattle.script.specs.Written.{InFunc, InFuncs, none_left, one_more}
use Rattle.script.specs.declared.Env.{Env}
use Rattle.tape.specs.Instruction.{Code, ret}
use Rattle.tape.specs.Tape.{tape_f, tape_fs}
use Rattle.tape.specs.Held.{hold}
use Rattle.tape.proofs.Counts.{hold_within}
use Rattle.tape.proofs.Sizes.{records_f, records_fs, tape_s_records}
use Rattle.translation.specs.Translate.{depth, FDEFT}
use Rattle.translation.proofs.Heights.{depth_ifs}
use Rattle.costing.proofs.Kept.{deeps_after}
use Rattle.compiler.proofs.Rolling.{code_f, code_fs}

-- the functions from f on have the depths that the row says
pub data Right : List ℕ → ℕ → List Func → Type 0 where
  all_right : {deeps : List ℕ} {f : ℕ} → Right deeps f []
  one_right : {deeps : List ℕ} {f : ℕ} {g : Func} {gs : List Func} → get_or deeps f 0 ≡ depth g.body → Right deeps (suc f) gs → Right deeps f (g ∷ gs)

deeps_before : (fs : List Func) (deeps : List ℕ) (f g : ℕ) → g < f → get_or (deeps_after deeps f fs) g 0 ≡ get_or deeps g 0
unfolding deeps_after
deeps_before [] deeps f g h = refl
deeps_before (u ∷ fs) deeps f g h =
    deeps_before fs (keep deeps f (depth u.body)) (suc f) g (omega arith) ∙ get_or-set_other deeps f g (depth u.body) 0 (λ e. omega arith)

pub deeps_right : (fs : List Func) (deeps : List ℕ) (f : ℕ) → f + length fs ≤ length deeps → Right (deeps_after deeps f fs) f fs
unfolding deeps_after
deeps_right [] deeps f room = all_right
deeps_right (u ∷ fs) deeps f room =
    let kept = keep deeps f (depth u.body) in
    one_right (deeps_before fs kept (suc f) f (omega arith) ∙ get_or-set_same deeps f (depth u.body) 0 (omega arith))
    (deeps_right fs kept (suc f) (omega (arith, length-set deeps f (depth u.body))))

-- ---- the code
func_right : {v : Env} {g : Func} → InFunc v g → (deep : ℕ) (c : Code) → deep ≡ depth g.body → code_f deep g c ≡ tape_f (FDEFT g) c
unfolding code_f tape_f FDEFT
func_right {v} {g} h deep c e =
    let q : hold (g.slots + 2 + depth g.body) ≡ g.slots + 2 + depth g.body =
    hold_within (g.slots + 2 + depth g.body) (omega (arith, h.slots, h.branches, depth_ifs g.body)) in
    rw (e, q) refl

pub code_right : {v : Env} {fs : List Func} → InFuncs v fs → {deeps : List ℕ} {f : ℕ} → Right deeps f fs → code_fs deeps f fs ≡ tape_fs (map FDEFT fs)
unfolding code_fs tape_fs
code_right none_left all_right = refl
code_right (one_more {f = g} {fs = gs} h r) {deeps} {f} (one_right e k) =
    func_right h (get_or deeps f 0) _ e ∙ ap (tape_f (FDEFT g)) (code_right r k)

-- as many records, whatever the row says
func_records : (deep : ℕ) (g : Func) (c : Code) → length (code_f deep g c) ≡ records_f (FDEFT g) + length c
unfolding code_f records_f
func_records deep g c = omega (arith, tape_s_records (FDEFT g).body (ret g.slots ∷ c))

pub code_records : (fs : List Func) (deeps : List ℕ) (f : ℕ) → length (code_fs deeps f fs) ≡ records_fs (map FDEFT fs)
unfolding code_fs records_fs
code_records [] deeps f = refl
code_records (g ∷ gs) deeps f =
    omega (arith, func_records (get_or deeps f 0) g (code_fs deeps (suc f) gs), code_records gs deeps (suc f))
