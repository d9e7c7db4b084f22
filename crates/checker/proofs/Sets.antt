-- A number as a set of slots below 64: what was put into it is in it, and nothing else changes. Assumes nothing.
use Prim.Native.Nat.{ℕ, ◌%◌, ◌*◌, ◌<◌, ◌^◌}
use native.Mathlib.Omega.{arith}
use native.Mathlib.Nat.{one-mul, mod-eq_of_lt}
use mathlib.Core.Path.{◌≡◌, refl, ap, ◌∙◌}
use mathlib.Core.Bool.{Bool, true, false, ◌||◌, and-false}
use borrow.Author.Tests.{ltb-false, eq-eqb, ne_eqb, eqb-true, eqb-false}
use lib.Dec.{ltb, eqb}
use lib.Pow.{pow-lt}
use lib.Bits.{bit_or}
use Rattle.std.specs.Int.{bit_at}
use Rattle.std.proofs.lemmas.Nat.Bits.{bit_at-zero, bit_at_or, bit_at-pow_same, bit_at-pow_other, bit_at-lt}
use Rattle.checker.specs.Standing.{has, insert}

-- the set of slot p alone is a word of 64 bits
pub one_bit : (p : ℕ) → p < 64 → 1 * 2 ^ p % 2 ^ 64 ≡ 2 ^ p
one_bit p h = simp one-mul (mod-eq_of_lt (pow-lt h))

by : (w p q : ℕ) (b : Bool) → eqb q p ≡ b → eqb (bit_at (bit_or w (2 ^ p)) q) 1 ≡ b || eqb (bit_at w q) 1
by w p q true e =
    let here : bit_at (2 ^ p) q ≡ 1 = rw (eqb-true q p e) (bit_at-pow_same p) in
    eq-eqb _ 1 (bit_at_or w (2 ^ p) q ∙ omega (arith, here, bit_at-lt w q))
by w p q false e =
    let elsewhere : bit_at (2 ^ p) q ≡ 0 = bit_at-pow_other p q (eqb-false q p e) in
    ap (λ (n : ℕ). eqb n 1) (bit_at_or w (2 ^ p) q ∙ omega (arith, elsewhere))

in_or_out : (w p q : ℕ) (b : Bool) → p < 64 → ltb q 64 ≡ b → has (insert w p) q ≡ eqb q p || has w q
unfolding has insert
in_or_out w p q true h e = rw e (by w p q (eqb q p) refl)
in_or_out w p q false h e =
    let far = ltb-false q 64 e in
    rw (e, ne_eqb q p (omega arith))

pub has_insert : (w p q : ℕ) → p < 64 → has (insert w p) q ≡ eqb q p || has w q
has_insert w p q h = in_or_out w p q (ltb q 64) h refl

pub has_none : (q : ℕ) → has 0 q ≡ false
unfolding has
has_none q = rw (bit_at-zero q) (and-false (ltb q 64))
