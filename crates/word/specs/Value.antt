-- Values and their operators (01, "Words, values, arithmetic"). A value is a whole number below 2^32; a boolean is a full mask.
-- `op` and `flip` stay shut outside this crate: whoever needs more of an operator finds its law in proofs/Laws.antt.
-- Assumes nothing: these are definitions.
use Rattle.std.specs.Prelude.{ℕ, ◌+◌, ◌-◌, ◌*◌, ◌/◌, ◌%◌, ◌^◌, Bool, true, false, not, ◌&&◌, ◌||◌, ◌==◌, bit_and, bit_or, nat_le, nat_lt}

-- "TRUE is 4294967295, FALSE is 0"
abbrev pub TRUE : ℕ
TRUE = 4294967295

abbrev pub FALSE : ℕ
FALSE = 0

-- a test widened to a full mask, and a mask read as a test
abbrev pub mask : Bool → ℕ
mask true = TRUE
mask false = FALSE

unfoldable pub truth : ℕ → Bool
truth v = v == TRUE

-- the operators, in the order of their codes 1 to 15: + - * << >> & | == != > < >= <=, and of the script && and ||
pub data Op : Type 0 where
  add sub mul shl shr and or eq ne gt lt ge le land lor : Op

-- "`~x` is 4294967295 − x"
unfoldable pub flip : ℕ → ℕ
flip a = TRUE - a

-- `!`, read plainly
unfoldable pub negate : ℕ → ℕ
negate a = mask (not (truth a))

-- "`x << n` is x·2^n modulo 2^32": for n below 32; "either is 0 for n of 32 or more"
unfoldable pub left_by : Bool → ℕ → ℕ → ℕ
left_by true x n = x * 2 ^ n % 2 ^ 32
left_by false x n = 0

unfoldable pub left : ℕ → ℕ → ℕ
left x n = left_by (nat_lt n 32) x n

-- "`x >> n` is x divided by 2^n rounded down"
unfoldable pub right_by : Bool → ℕ → ℕ → ℕ
right_by true x n = x / 2 ^ n
right_by false x n = 0

unfoldable pub right : ℕ → ℕ → ℕ
right x n = right_by (nat_lt n 32) x n

-- "`+` and `-` wrap modulo 2^32, as does `*`"; "comparisons are unsigned and give TRUE or FALSE as a full mask"
unfoldable pub op : Op → ℕ → ℕ → ℕ
op add a b = (a + b) % 2 ^ 32
op sub a b = (a + 2 ^ 32 - b) % 2 ^ 32
op mul a b = a * b % 2 ^ 32
op shl a n = left a n
op shr a n = right a n
op and a b = bit_and a b
op or a b = bit_or a b
op eq a b = mask (a == b)
op ne a b = mask (not (a == b))
op gt a b = mask (nat_lt b a)
op lt a b = mask (nat_lt a b)
op ge a b = mask (nat_le b a)
op le a b = mask (nat_le a b)
op land a b = mask (truth a && truth b)
op lor a b = mask (truth a || truth b)
