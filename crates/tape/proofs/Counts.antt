-- Counts that are held at one more than the limit: to hold a part early changes nothing. Assumes nothing.
use Prim.Native.Nat.{ℕ, zero, suc, ◌+◌, ◌*◌, ◌≤◌, ◌<◌, min}
use native.Mathlib.Omega.{arith}
use native.Mathlib.Nat.{mul-le-mul_right, zero-mul, one-mul}
use native.Mathlib.Numerals.{add-one}
use mathlib.Core.Path.{◌≡◌, refl, sym, ap, ◌∙◌}
use mathlib.Core.Logic.{⊎_elim, ◌⊎◌, inl, inr}
use mathlib.Core.Bool.{Bool, true, false}
use borrow.Author.Tests.{le-leb, lt-leb, leb-true, leb-false}
use lib.Dec.{leb}
use Rattle.std.proofs.Math.Nat.{min-eq_left, min-eq_right}
use Rattle.tape.specs.Steps.{most}
use Rattle.tape.specs.Held.{hold}

-- a count is within the limit, or over it
cases_by : (n : ℕ) (b : Bool) → leb n most ≡ b → (n ≤ most) ⊎ (most < n)
cases_by n true e = inl (leb-true n most e)
cases_by n false e = inr (leb-false n most e)

pub over_or_not : (n : ℕ) → (n ≤ most) ⊎ (most < n)
over_or_not n = cases_by n (leb n most) refl

pub hold_within : (n : ℕ) → n ≤ most → hold n ≡ n
unfolding hold
hold_within n h = simp (le-leb n most h)

pub hold_over : (n : ℕ) → most < n → hold n ≡ 1000000001
unfolding hold
hold_over n h = simp (lt-leb n most h)

pub hold_add : (a b : ℕ) → hold (hold a + b) ≡ hold (a + b)
hold_add a b =
    ⊎_elim (λ h. ap (λ (n : ℕ). hold (n + b)) (hold_within a h))
    (λ h. ap (λ (n : ℕ). hold (n + b)) (hold_over a h) ∙ hold_over (1000000001 + b) (omega arith) ∙ sym (hold_over (a + b) (omega arith)))
    (over_or_not a)

pub hold_add_right : (a b : ℕ) → hold (a + hold b) ≡ hold (a + b)
hold_add_right a b =
    let here : a + hold b ≡ hold b + a = omega arith in
    let there : b + a ≡ a + b = omega arith in
    ap hold here ∙ hold_add b a ∙ ap hold there

pub hold_hold : (a : ℕ) → hold (hold a) ≡ hold a
hold_hold a = ⊎_elim (λ h. ap hold (hold_within a h)) (λ h. ap hold (hold_over a h) ∙ hold_over 1000000001 (omega arith) ∙ sym (hold_over a h)) (over_or_not a)

pub hold_suc : (a : ℕ) → hold (suc (hold a)) ≡ hold (suc a)
hold_suc a = ap hold (sym (add-one (hold a))) ∙ hold_add a 1 ∙ ap hold (add-one a)

passes : (n i : ℕ) → hold (n * suc (hold i)) ≡ hold (n * suc i)
passes zero i = ap hold (zero-mul (suc (hold i)) ∙ sym (zero-mul (suc i)))
passes (suc n) i =
    ⊎_elim (λ h. ap (λ (m : ℕ). hold (suc n * suc m)) (hold_within i h))
    (λ h.
    let k = mul-le-mul_right {m = 1} {n = suc n} 1000000002 (omega arith) in
    let l = mul-le-mul_right {m = 1} {n = suc n} (suc i) (omega arith) in
    let e = one-mul (suc i) in
    ap (λ (m : ℕ). hold (suc n * suc m)) (hold_over i h) ∙ hold_over (suc n * 1000000002) (omega arith)
    ∙ sym (hold_over (suc n * suc i) (omega arith))) (over_or_not i)

-- a loop's steps, with those before it
pub hold_loop : (o n i : ℕ) → hold (hold o + n * suc (hold i)) ≡ hold (o + n * suc i)
hold_loop o n i =
    hold_add o (n * suc (hold i)) ∙ sym (hold_add_right o (n * suc (hold i))) ∙ ap (λ (m : ℕ). hold (o + m)) (passes n i) ∙ hold_add_right o (n * suc i)

-- a held count is within the limit where the count is, and then it is the count
pub hold_leb : (n : ℕ) → leb (hold n) most ≡ leb n most
hold_leb n = ⊎_elim (λ h. ap (λ (m : ℕ). leb m most) (hold_within n h)) (λ h. ap (λ (m : ℕ). leb m most) (hold_over n h) ∙ sym (lt-leb n most h)) (over_or_not n)

-- the lesser of the count and one more than the limit
pub hold_least : (n : ℕ) → min n 1000000001 ≡ hold n
hold_least n = ⊎_elim (λ h. min-eq_left (omega arith) ∙ sym (hold_within n h)) (λ h. min-eq_right h ∙ sym (hold_over n h)) (over_or_not n)

-- a count that does not fit a word of 64 bits is over the limit
pub hold_fitting : (n : ℕ) → hold (min n 18446744073709551615) ≡ hold n
hold_fitting n =
    ⊎_elim (λ h. ap hold (min-eq_left (omega arith)))
    (λ h. hold_over (min n 18446744073709551615) (omega arith) ∙ sym (hold_over n h)) (over_or_not n)
