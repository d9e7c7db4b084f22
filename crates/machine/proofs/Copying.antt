-- Operands copied to slots, one at a time. Assumes nothing.
use mathlib.Core.Path.{◌≡◌, ap, ◌∙◌}
use mathlib.Core.List.{List}
use Prim.Native.Nat.{ℕ, suc, ◌+◌, ◌-◌, ◌<◌, ◌≤◌}
use native.Mathlib.Omega.{arith}
use lib.ListN.{get_or, set as put_at}
use Rattle.machine.specs.Flat.{copied}

module _ (n : ℕ) (from : List ℕ) (i : ℕ) (to : List ℕ) (j : ℕ) where
  pub copy_none : copied (n - 0) from (i + 0) to (j + 0) ≡ copied n from i to j
  copy_none =
      let a : n - 0 ≡ n = omega arith in
      let b : i + 0 ≡ i = omega arith in
      let d : j + 0 ≡ j = omega arith in
      λ k. copied (a k) from (b k) to (d k)

  pub copy_one : (k : ℕ) → k < n → copied (n - k) from (i + k) to (j + k) ≡ copied (n - (k + 1)) from (i + (k + 1)) (put_at to (j + k) (get_or from (i + k) 0)) (j + (k + 1))
  unfolding copied
  copy_one k h =
      let a : n - k ≡ suc (n - (k + 1)) = omega arith in
      let b : i + k + 1 ≡ i + (k + 1) = omega arith in
      let d : j + k + 1 ≡ j + (k + 1) = omega arith in
      ap (λ (m : ℕ). copied m from (i + k) to (j + k)) a
      ∙ (λ l. copied (n - (k + 1)) from (b l) (put_at to (j + k) (get_or from (i + k) 0)) (d l))

  pub copy_all : (k a b : ℕ) → n ≤ k → copied (n - k) from a to b ≡ to
  unfolding copied
  copy_all k a b h = let e : n - k ≡ 0 = omega arith in ap (λ (m : ℕ). copied m from a to b) e
