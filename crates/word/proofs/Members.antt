-- A number as a set of slots below 32: what was put into it, or taken out, is so, and nothing else changes. Assumes nothing.
use Rattle.std.proofs.Common.{◌≡◌, ℕ, zero, suc, ◌+◌, ◌*◌, ◌/◌, ◌%◌, ◌^◌, ◌<◌, ◌≤◌, Bool, true, false, cond, not, eqb, ltb, sym, refl, ap, ◌∙◌, add-zero, one-mul, mod-lt, mod-eq_of_lt, arith, ltb-false, ltb-true, le-ltb, lt-ltb, eqb-true}
use mathlib.Core.Path.{fun_ext}
use borrow.Author.Tests.{eqb-false}
use lib.Bits.{bit_xor}
use lib.Pow.{pow-lt}
use Rattle.std.proofs.lemmas.Nat.Bits.{bit_at-pow_same, bit_at-pow_other, bit_at-zero, bit_at_xor}
use Rattle.word.specs.Slots.{here, upd}
use Rattle.word.specs.Sets.{has, toggle, turned, put, below}

-- 1 moved up by p places, which stays below 2^32
pub shifted : (p : ℕ) → p < 32 → 1 * 2 ^ p % 2 ^ 32 ≡ 2 ^ p
shifted p h = ap (λ (n : ℕ). n % 2 ^ 32) (one-mul (2 ^ p)) ∙ mod-eq_of_lt (pow-lt h)

flips : (x : ℕ) → x < 2 → eqb ((x + 1) % 2) 1 ≡ not (eqb x 1)
flips zero h = refl
flips (suc zero) h = refl
flips (suc (suc x)) h = absurd (omega arith)

-- a digit of a set in which p is turned
turned_here : (w p : ℕ) → eqb (bit_xor w (2 ^ p) / 2 ^ p % 2) 1 ≡ not (eqb (w / 2 ^ p % 2) 1)
turned_here w p = rw (bit_at_xor w (2 ^ p) p, bit_at-pow_same p) (flips (w / 2 ^ p % 2) (mod-lt _ (omega arith)))

turned_there : (w p q : ℕ) → (q ≡ p → ⊥) → eqb (bit_xor w (2 ^ p) / 2 ^ q % 2) 1 ≡ eqb (w / 2 ^ q % 2) 1
turned_there w p q d =
    let h : w / 2 ^ q % 2 < 2 = mod-lt _ (omega arith) in
    rw (bit_at_xor w (2 ^ p) q, bit_at-pow_other p q d, add-zero, mod-eq_of_lt h) refl

has_here : (w p : ℕ) → p < 32 → has w p ≡ eqb (w / 2 ^ p % 2) 1
unfolding has
has_here w p h = rw (lt-ltb p 32 h) refl

toggle_here : (w p : ℕ) → p < 32 → has (toggle w p) p ≡ not (has w p)
unfolding toggle
toggle_here w p h = has_here (toggle w p) p h ∙ turned_here w p ∙ ap not (sym (has_here w p h))

toggle_there : (w p q : ℕ) (b : Bool) → ltb q 32 ≡ b → (q ≡ p → ⊥) → has (toggle w p) q ≡ has w q
unfolding toggle has
toggle_there w p q true e d = rw e (turned_there w p q d)
toggle_there w p q false e d = rw e refl

turned_same : (w p : ℕ) (h b : Bool) → p < 32 → has w p ≡ h → has (turned h b w p) p ≡ b
unfolding turned
turned_same w p true true s e = e
turned_same w p true false s e = toggle_here w p s ∙ ap not e
turned_same w p false true s e = toggle_here w p s ∙ ap not e
turned_same w p false false s e = e

turned_other : (w p q : ℕ) (h b : Bool) → (q ≡ p → ⊥) → has (turned h b w p) q ≡ has w q
unfolding turned
turned_other w p q true true d = refl
turned_other w p q true false d = toggle_there w p q (ltb q 32) refl d
turned_other w p q false true d = toggle_there w p q (ltb q 32) refl d
turned_other w p q false false d = refl

by : (w p q : ℕ) (b e : Bool) → p < 32 → eqb q p ≡ e → has (turned (has w p) b w p) q ≡ here e b (has w q)
unfolding here
by w p q b true s e = rw (eqb-true q p e) (turned_same w p (has w p) b s refl)
by w p q b false s e = turned_other w p q (has w p) b (eqb-false q p e)

-- the set is a map of slots, and a put into it an update
pub has_put : (w p : ℕ) (b : Bool) → p < 32 → (λ (q : ℕ). has (put w p b) q) ≡ upd (λ (q : ℕ). has w q) p b
unfolding put upd
has_put w p b s = fun_ext λ q. rw (lt-ltb p 32 s) (by w p q b (eqb q p) s refl)

none_by : (b : Bool) (q : ℕ) → cond b (eqb (0 / 2 ^ q % 2) 1) false ≡ false
none_by true q = ap (λ (n : ℕ). eqb n 1) (bit_at-zero q)
none_by false q = refl

pub has_none : (q : ℕ) → has 0 q ≡ false
unfolding has
has_none q = none_by (ltb q 32) q

below_by : (n q : ℕ) (e : Bool) → eqb q n ≡ e → here e true (ltb q n) ≡ ltb q (suc n)
unfolding here
below_by n q true e = sym (lt-ltb q (suc n) (omega (arith, eqb-true q n e)))
below_by n q false e = next (ltb q n) refl
  where
    next : (b : Bool) → ltb q n ≡ b → ltb q n ≡ ltb q (suc n)
    next true l = l ∙ sym (lt-ltb q (suc n) (omega (arith, ltb-true q n l)))
    next false l = l ∙ sym (le-ltb q (suc n) (let d : q ≡ n → ⊥ = eqb-false q n e in omega (arith, ltb-false q n l)))

pub has_below : (n q : ℕ) → n ≤ 32 → has (below n) q ≡ ltb q n
unfolding below upd
has_below zero q h = has_none q ∙ sym (le-ltb q 0 (omega arith))
has_below (suc n) q h =
    ap (λ (f : ℕ → Bool). f q) (has_put (below n) n true (omega arith)) ∙
    ap (here (eqb q n) true) (has_below n q (omega arith)) ∙
    below_by n q (eqb q n) refl
