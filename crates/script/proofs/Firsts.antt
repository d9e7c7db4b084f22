-- A stage's fault is one of its parts': where it lies, and that another tree has it where its parts do. Assumes nothing.
use mathlib.Core.Path.{◌≡◌, refl, sym}
use mathlib.Core.Bool.{Bool, true, false}
use Prim.Native.Nat.{ℕ, ◌≤◌}
use native.Mathlib.Omega.{arith}
use Rattle.script.specs.Stage.{or_else, Walked, goes, stops, after, onward, refuse_if, ended}
use Rattle.script.specs.Scope.{Names, close}
use Rattle.script.specs.Stage.{First}
use Rattle.script.proofs.Walks.{faulty, stopped}
use Rattle.word.proofs.Refused.{refused_is, refused_number, refused_place}
use Rattle.std.specs.Prelude.{Ok, Err}
use Rattle.word.specs.Refusals.{refuse}

-- ---- a fault of the whole is one of a part
module _ {number place : ℕ} where
  pub not_clean : {P : Type 0} → ◌≡◌ {A = First} (Ok tt) (refuse number place) → P
  not_clean e = absurd (faulty (sym e))

  pub not_goes : {A P : Type 0} {a : A} → goes a ≡ stops number place → P
  not_goes e = absurd (stopped (sym e))

  -- where it lies
  pub or_from : {at : ℕ} (a : First) {b : First} → (a ≡ refuse number place → at ≤ place) → (b ≡ refuse number place → at ≤ place)
      → or_else a b ≡ refuse number place → at ≤ place
  unfolding or_else
  or_from (Ok u) f g e = g e
  or_from (Err r) f g e = f e

  pub after_from : {A : Type 0} {at : ℕ} (a : First) {w : Walked A} → (a ≡ refuse number place → at ≤ place) → (w ≡ stops number place → at ≤ place)
      → after a w ≡ stops number place → at ≤ place
  unfolding after
  after_from (Ok u) f g e = g e
  after_from (Err r) f g e = f (refused_is r (cc) (cc))

  pub onward_from : {A B : Type 0} {at : ℕ} (w : Walked A) {g : A → Walked B} → (w ≡ stops number place → at ≤ place)
      → ((a : A) → g a ≡ stops number place → at ≤ place) → onward w g ≡ stops number place → at ≤ place
  unfolding onward
  onward_from (goes a) f h e = h a e
  onward_from (stops n p) f h e = f (cc)

  pub refuse_from : {A : Type 0} (b : Bool) (n at : ℕ) {w : Walked A} → (w ≡ stops number place → at ≤ place)
      → refuse_if b n at w ≡ stops number place → at ≤ place
  unfolding refuse_if
  refuse_from true n at f e = let p : at ≡ place = cc in omega arith
  refuse_from false n at f e = f e

  pub close_stops : (N : Names) (w : Walked Names) → close N w ≡ stops number place → w ≡ stops number place
  unfolding close
  close_stops N (goes m) e = not_goes e
  close_stops N (stops n p) e = cc

  pub ended_stops : {A : Type 0} (w : Walked A) → ended w ≡ refuse number place → w ≡ stops number place
  unfolding ended
  ended_stops (goes a) e = not_clean e
  ended_stops (stops n p) e =
      let m = refused_number e in
      let i = refused_place e in
      cc

  -- and that another whole has it, where its parts do
  pub or_like : (a : First) {b c d : First} → (a ≡ refuse number place → c ≡ refuse number place)
      → (a ≡ Ok tt → b ≡ refuse number place → (c ≡ Ok tt) × (d ≡ refuse number place)) → or_else a b ≡ refuse number place → or_else c d ≡ refuse number place
  unfolding or_else
  or_like (Ok u) f g e = let (p, q) = g refl e in rw p q
  or_like (Err r) f g e = rw (f e) refl

  pub after_like : {A : Type 0} (a : First) {w : Walked A} {c : First} {z : Walked A} → (a ≡ refuse number place → c ≡ refuse number place)
      → (a ≡ Ok tt → w ≡ stops number place → (c ≡ Ok tt) × (z ≡ stops number place)) → after a w ≡ stops number place → after c z ≡ stops number place
  unfolding after
  after_like (Ok u) f g e = let (p, q) = g refl e in rw p q
  after_like (Err r) f g e = rw (f (refused_is r (cc) (cc))) refl

  pub onward_like : {A B : Type 0} (w : Walked A) {z : Walked A} {g h : A → Walked B} → (w ≡ stops number place → z ≡ stops number place)
      → ((a : A) → w ≡ goes a → g a ≡ stops number place → (z ≡ goes a) × (h a ≡ stops number place))
      → onward w g ≡ stops number place → onward z h ≡ stops number place
  unfolding onward
  onward_like (goes a) f l e = let (p, q) = l a refl e in rw p q
  onward_like (stops n p) f l e = rw (f (cc)) refl

  pub refuse_like : {A : Type 0} (b : Bool) (n at : ℕ) {w z : Walked A} → (w ≡ stops number place → z ≡ stops number place)
      → refuse_if b n at w ≡ stops number place → refuse_if b n at z ≡ stops number place
  unfolding refuse_if
  refuse_like true n at f e = e
  refuse_like false n at f e = f e

  pub close_like : (N : Names) (w : Walked Names) {z : Walked Names} → (w ≡ stops number place → z ≡ stops number place)
      → close N w ≡ stops number place → close N z ≡ stops number place
  unfolding close
  close_like N w f e = rw (f (close_stops N w e)) refl

  pub ended_like : {A : Type 0} (w : Walked A) {z : Walked A} → (w ≡ stops number place → z ≡ stops number place)
      → ended w ≡ refuse number place → ended z ≡ refuse number place
  unfolding ended
  ended_like w f e = rw (f (ended_stops w e)) refl
