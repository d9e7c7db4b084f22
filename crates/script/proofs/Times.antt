-- So many, one after another: what is left of n after i turns. Assumes nothing.
use Rattle.std.proofs.Common.{◌≡◌, ℕ, suc, ◌+◌, ◌-◌, ◌<◌, ◌≤◌, ap, arith}
use Rattle.script.specs.Shape.{times}

module _ {A : Type 0} (f : A → A) (n i : ℕ) (a : A) where
  pub times_more : i < n → times (n - i) f a ≡ times (n - (i + 1)) f (f a)
  unfolding times
  times_more h =
      let e : n - i ≡ suc (n - (i + 1)) = omega arith in
      ap (λ (k : ℕ). times k f a) e

  pub times_over : n ≤ i → times (n - i) f a ≡ a
  unfolding times
  times_over h =
      let e : n - i ≡ 0 = omega arith in
      ap (λ (k : ℕ). times k f a) e
