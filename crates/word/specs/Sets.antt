-- A number as a set of slots: slot p is a member if binary digit p is 1 (01: slots are below 32). Assumes nothing: these are definitions.
use Rattle.std.specs.Prelude.{ℕ, zero, suc, ◌/◌, ◌%◌, ◌^◌, Bool, true, false, cond, ◌==◌, bit_xor, nat_lt}

unfoldable pub has : ℕ → ℕ → Bool
has w p = cond (nat_lt p 32) (w / 2 ^ p % 2 == 1) false

unfoldable pub toggle : ℕ → ℕ → ℕ
toggle w p = bit_xor w (2 ^ p)

-- by what p is in the set, and what it is to be
unfoldable pub turned : Bool → Bool → ℕ → ℕ → ℕ
turned true true w p = w
turned true false w p = toggle w p
turned false true w p = toggle w p
turned false false w p = w

unfoldable pub put : ℕ → ℕ → Bool → ℕ
put w p b = cond (nat_lt p 32) (turned (has w p) b w p) w

-- the slots below n
unfoldable pub below : ℕ → ℕ
below zero = 0
below (suc n) = put (below n) n true
