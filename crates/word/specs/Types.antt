-- The two types of the script language, as far as operators know them (01, "Types"). Assumes nothing: these are definitions.
use Rattle.std.specs.Prelude.{◌≡◌, ℕ, ◌^◌, ◌<◌, Bool, true, false, not, ◌&&◌}
use Rattle.word.specs.Value.{mask, Op, add, sub, mul, shl, shr, and, or, eq, ne, gt, lt, ge, le, land, lor}

pub data Ty : Type 0 where
  number boolean : Ty

-- what a value of a type is: a word, or a full mask
pub data Val (v : ℕ) : Ty → Type 0 where
  is_number : v < 2 ^ 32 → Val v number
  is_boolean : (b : Bool) → v ≡ mask b → Val v boolean

abbrev pub is_numeric : Ty → Bool
is_numeric number = true
is_numeric boolean = false

abbrev pub alike : Ty → Ty → Bool
alike number r = is_numeric r
alike boolean r = not (is_numeric r)

abbrev pub numbers : Ty → Ty → Bool
numbers l r = is_numeric l && is_numeric r

abbrev pub booleans : Ty → Ty → Bool
booleans l r = not (is_numeric l) && not (is_numeric r)

-- the type of an operator's result, by its left side's: "codes 1 to 5 are numbers; codes 8 to 15 are booleans;
-- codes 6 and 7 have their left side's type"
unfoldable pub op_ty : Op → Ty → Ty
op_ty add l = number
op_ty sub l = number
op_ty mul l = number
op_ty shl l = number
op_ty shr l = number
op_ty and l = l
op_ty or l = l
op_ty eq l = boolean
op_ty ne l = boolean
op_ty gt l = boolean
op_ty lt l = boolean
op_ty ge l = boolean
op_ty le l = boolean
op_ty land l = boolean
op_ty lor l = boolean

-- what it requires of its sides: "numbers for codes 1 to 5 and 10 to 13; booleans for codes 14, 15; equal types on both sides for 6 to 9"
unfoldable pub op_fine : Op → Ty → Ty → Bool
op_fine add l r = numbers l r
op_fine sub l r = numbers l r
op_fine mul l r = numbers l r
op_fine shl l r = numbers l r
op_fine shr l r = numbers l r
op_fine and l r = alike l r
op_fine or l r = alike l r
op_fine eq l r = alike l r
op_fine ne l r = alike l r
op_fine gt l r = numbers l r
op_fine lt l r = numbers l r
op_fine ge l r = numbers l r
op_fine le l r = numbers l r
op_fine land l r = booleans l r
op_fine lor l r = booleans l r
