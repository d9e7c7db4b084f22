-- What a stage that found no fault says of its parts: each found none. Assumes nothing.
use mathlib.Core.Path.{◌≡◌, refl}
use mathlib.Core.Bool.{Bool, true, false}
use Prim.Native.Nat.{ℕ}
use native.Mathlib.Omega.{arith}
use lib.Dec.{T}
use Rattle.script.specs.Stage.{or_else, Walked, goes, stops, after, onward, refuse_if, ended}
use Rattle.script.specs.Stage.{First}
use Rattle.script.specs.Types.{require}
use Rattle.std.specs.Prelude.{Ok, Err}
use Rattle.word.specs.Refusals.{refuse}

pub stopped : {A : Type 0} {number place : ℕ} {a : A} → stops number place ≡ goes a → ⊥
stopped e = let z : ◌≡◌ {A = ℕ} 0 1 = cc in omega arith

pub faulty : {number place : ℕ} → ◌≡◌ {A = First} (refuse number place) (Ok tt) → ⊥
faulty e = let z : ◌≡◌ {A = ℕ} 0 1 = cc in omega arith

pub both_clean : (a : First) {b : First} → or_else a b ≡ Ok tt → (a ≡ Ok tt) × (b ≡ Ok tt)
unfolding or_else
both_clean (Ok u) e = (refl, e)
both_clean (Err r) e = absurd (faulty e)

pub after_goes : {A : Type 0} (f : First) {w : Walked A} {a : A} → after f w ≡ goes a → (f ≡ Ok tt) × (w ≡ goes a)
unfolding after
after_goes (Ok u) e = (refl, e)
after_goes (Err r) e = absurd (stopped e)

pub onward_goes : {A B : Type 0} (w : Walked A) {g : A → Walked B} {b : B} → onward w g ≡ goes b → (a : A) × (w ≡ goes a) × (g a ≡ goes b)
unfolding onward
onward_goes (goes a) e = (a, refl, e)
onward_goes (stops number place) e = absurd (stopped e)

pub refuse_goes : {A : Type 0} (b : Bool) (number place : ℕ) {w : Walked A} {a : A} → refuse_if b number place w ≡ goes a → (b ≡ false) × (w ≡ goes a)
unfolding refuse_if
refuse_goes true number place e = absurd (stopped e)
refuse_goes false number place e = (refl, e)

pub ended_clean : {A : Type 0} (w : Walked A) → ended w ≡ Ok tt → (a : A) × (w ≡ goes a)
unfolding ended
ended_clean (goes a) e = (a, refl)
ended_clean (stops number place) e = absurd (faulty e)

pub required : (b : Bool) (at : ℕ) → require b at ≡ Ok tt → T b
unfolding require
required true at e = tt
required false at e = absurd (faulty e)
