-- The search of the open bodies for a slot, from the innermost out: what the first body shows that shows anything is what is visible. Assumes nothing.
use Prim.Native.Nat.{ℕ, suc}
use mathlib.Core.Path.{◌≡◌, refl}
use Rattle.word.specs.Slots.{Seen, hidden, fixed, defined}
use Rattle.checker.specs.declared.standing.Bodies.{Bodies}
use Rattle.checker.specs.Standing.{onto, shown_by, scope_at}

pub found : (s t : Seen) → (s ≡ hidden → ⊥) → onto s t ≡ s
unfolding onto
found hidden t h = absurd (h refl)
found fixed t h = refl
found defined t h = refl

-- a body of a loop that shows nothing, and one that shows something
module _ (p : ℕ) (b : Bodies) (d x : ℕ) where
  pub shown_on : shown_by b (suc d) x ≡ hidden → scope_at p b (suc d) x ≡ scope_at p b d x
  unfolding scope_at onto
  shown_on e = rw e

  pub shown_here : (shown_by b (suc d) x ≡ hidden → ⊥) → scope_at p b (suc d) x ≡ shown_by b (suc d) x
  unfolding scope_at
  shown_here h = found (shown_by b (suc d) x) (scope_at p b d x) h
