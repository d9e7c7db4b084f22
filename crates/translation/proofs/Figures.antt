-- How many steps the translation of each statement takes, by its own parts' and the number d of IFs round it; where function f takes κ f steps.
-- Assumes nothing.
use mathlib.Core.Path.{◌≡◌, refl}
use Prim.Native.Nat.{ℕ, zero, suc, ◌+◌, ◌-◌, ◌*◌}
use native.Mathlib.Omega.{arith}
use Rattle.script.specs.Tree.{Expr, Stmt, set, put, for, if, return, Func}
use Rattle.tape.specs.Core.{CExpr, VAR, GET}
use Rattle.tape.specs.Steps.{steps_e, steps_s, steps_f}
use Rattle.translation.specs.Translate.{layout, EXT, context, masking, merge, STT, FDEFT}

module _ (κ : ℕ → ℕ) (n d : ℕ) where
  pub context_steps : (k : ℕ) → steps_e κ (context (layout n) k) ≡ 2 * k
  unfolding context steps_e
  context_steps zero = refl
  context_steps (suc k) = omega (arith, context_steps k)

  masking_steps : steps_e κ (masking (layout n) d) ≡ 2 * d + 2
  unfolding masking steps_e
  masking_steps = omega (arith, context_steps d)

  merge_steps : (e old : CExpr) → steps_e κ (merge (layout n) d e old) ≡ steps_e κ e + steps_e κ old + 8 + 4 * d
  unfolding merge steps_e
  merge_steps e old = omega (arith, masking_steps)

  pub set_steps : (x : ℕ) (e : Expr) → steps_s κ (STT (layout n) d (set x e)) ≡ steps_e κ (EXT e) + 10 + 4 * d
  unfolding STT steps_s steps_e
  set_steps x e = omega (arith, merge_steps (EXT e) (VAR x))

  pub put_steps : (a : ℕ) (i e : Expr) → steps_s κ (STT (layout n) d (put a i e)) ≡ 2 * steps_e κ (EXT i) + steps_e κ (EXT e) + 10 + 4 * d
  unfolding STT steps_s steps_e
  put_steps a i e = omega (arith, merge_steps (EXT e) (GET a (EXT i)))

  pub return_steps : (e : Expr) → steps_s κ (STT (layout n) d (return e)) ≡ steps_e κ (EXT e) + 10 + 4 * d
  unfolding STT steps_s steps_e
  return_steps e = omega (arith, masking_steps, context_steps d)

  pub if_steps : (c : Expr) (s t : Stmt) → steps_s κ (STT (layout n) d (if c s t))
      ≡ steps_e κ (EXT c) + steps_s κ (STT (layout n) (suc d) s) + steps_s κ (STT (layout n) (suc d) t) + 4
  unfolding STT steps_s steps_e
  if_steps c s t = omega arith

  pub for_steps : (x q r : ℕ) (s : Stmt) → steps_s κ (STT (layout n) d (for x q r s)) ≡ (r - q) * suc (steps_s κ (STT (layout n) d s))
  unfolding STT steps_s
  for_steps x q r s = refl

pub func_steps : (κ : ℕ → ℕ) (f : Func) → steps_f κ (FDEFT f) ≡ steps_s κ (STT (layout f.slots) 0 f.body) + 3
unfolding FDEFT steps_f steps_s steps_e
func_steps κ f = omega arith
