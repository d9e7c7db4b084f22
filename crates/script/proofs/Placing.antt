-- The functions of a program within its ranges, one after another: each calls lower ones, with as many arguments as those have parameters.
-- Assumes nothing.
use mathlib.Core.Path.{◌≡◌, refl, sym, ap, ◌∙◌}
use mathlib.Core.List.{List, [], ◌∷◌}
use Prim.Native.Nat.{ℕ, suc, ◌+◌, ◌≤◌, ◌<◌}
use native.Mathlib.Omega.{arith}
use native.Mathlib.Nat.{not-suc-le-zero}
use native.Mathlib.Decide.{ℕ_discrete}
use lib.ListN.{length, get_or, length-set}
use lib.Seq.{get_or-set_same, get_or-set_other}
use Rattle.script.specs.Tree.{Func, Program}
use Rattle.script.specs.Parse.{entered, passed, nowhere}
use Rattle.script.specs.Written.{head_of, InFunc, InFuncs, none_left, one_more, Within}
use Rattle.script.specs.declared.Env.{Env}
use Rattle.script.proofs.Judged.{params_at}

-- what a call's fields are held against in function k, where function f has π f parameters
pub record Places (π : ℕ → ℕ) (k : ℕ) (v : Env) : Type 0 where
  pub func : v.func ≡ k
  pub arity : (f : ℕ) → f < k → get_or v.params f 0 ≡ π f
  pub room : length v.params ≡ 16

-- the functions from the k-th on
pub data Ordered (π : ℕ → ℕ) : ℕ → List Func → Type 0 where
  no_func : {k : ℕ} → Ordered π k []
  a_func : {k : ℕ} {v : Env} {f : Func} {fs : List Func} → Places π k (entered v (head_of f)) → InFunc v f → Ordered π (suc k) fs → Ordered π k (f ∷ fs)

module _ (π : ℕ → ℕ) {k : ℕ} {v : Env} (𝓟 : Places π k v) (f : Func) where
  enter_places : Places π k (entered v (head_of f))
  unfolding entered
  enter_places = record { func = 𝓟.func; arity = 𝓟.arity; room = 𝓟.room }

  pass_places : k < 16 → π k ≡ f.params → Places π (suc k) (passed v (head_of f))
  unfolding passed
  pass_places l e =
      record {
        func = ap suc 𝓟.func;
        arity = λ g h. rw 𝓟.func (go g h (ℕ_discrete g k));
        room = length-set v.params v.func f.params ∙ 𝓟.room;
      }
    where
      go : (g : ℕ) → g < suc k → Dec (g ≡ k) → get_or (lib.ListN.set v.params k f.params) g 0 ≡ π g
      go g h (yes q) = rw q (get_or-set_same v.params k f.params 0 (rw 𝓟.room l) ∙ sym e)
      go g h (no d) = get_or-set_other v.params k g f.params 0 d ∙ 𝓟.arity g (omega arith)

placed : (π : ℕ → ℕ) (k : ℕ) {v : Env} → Places π k v → {fs : List Func} → InFuncs v fs → ((i : ℕ) → π (k + i) ≡ params_at fs i)
    → k + length fs ≤ 16 → Ordered π k fs
unfolding params_at
placed π k 𝓟 none_left e l = no_func
placed π k 𝓟 (one_more {f} h r) e l =
    let q : k + 0 ≡ k = omega arith in
    let here : π k ≡ f.params = rw q at (e 0) in
    a_func (enter_places π 𝓟 f) h
    (placed π (suc k) (pass_places π 𝓟 f (omega arith) here) r (λ i. let z : suc k + i ≡ k + suc i = omega arith in rw z (e (suc i))) (omega arith))

pub ordered : (p : Program) → Within p → Ordered (params_at p.funcs) 0 p.funcs
ordered p h =
    let start : Places (params_at p.funcs) 0 (nowhere (length p.arrays)) =
    record { func = refl; arity = λ f l. absurd (not-suc-le-zero l); room = refl } in
    placed _ 0 start h.funcs (λ i. let z : 0 + i ≡ i = omega arith in ap (params_at p.funcs) z) (omega (arith, h.functions))
