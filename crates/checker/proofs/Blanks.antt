-- Which words of a record must be 0 (24), by its kind. Assumes nothing.
use Prim.Native.Nat.{ℕ}
use mathlib.Core.Path.{◌≡◌, refl}
use mathlib.Core.Bool.{true, ◌&&◌}
use borrow.Author.Tests.{eq-eqb}
use lib.Dec.{eqb}
use Rattle.word.specs.Records.{rec, same}
use Rattle.word.specs.declared.Record.{Record}

module _ (x : Record) where
  -- 24, by the words that have a meaning
  pub blank_pqr : (k : ℕ) → x.kind ≡ k → same x (rec k x.p x.q x.r) ≡ true
  unfolding same
  blank_pqr k e = rw (eq-eqb _ k e, eq-eqb x.p _ refl, eq-eqb x.q _ refl, eq-eqb x.r _ refl)

  pub blank_pq : (k : ℕ) → x.kind ≡ k → same x (rec k x.p x.q 0) ≡ eqb x.r 0
  unfolding same
  blank_pq k e = rw (eq-eqb _ k e, eq-eqb x.p _ refl, eq-eqb x.q _ refl)

  pub blank_p : (k : ℕ) → x.kind ≡ k → same x (rec k x.p 0 0) ≡ eqb x.q 0 && eqb x.r 0
  unfolding same
  blank_p k e = rw (eq-eqb _ k e, eq-eqb x.p _ refl)

  pub blank : (k : ℕ) → x.kind ≡ k → same x (rec k 0 0 0) ≡ eqb x.p 0 && (eqb x.q 0 && eqb x.r 0)
  unfolding same
  blank k e = rw (eq-eqb _ k e)
