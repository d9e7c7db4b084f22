-- A stage finds the first record at fault, or none (01, "Refusal numbers": "In a stage the scan stops at the first record at fault").
-- Assumes nothing: these are definitions.
use Rattle.std.specs.Prelude.{ℕ, ◌+◌, Bool, true, false, List, [], ◌∷◌, length}
use Rattle.script.specs.Tree.{Func, Program, size_f}
use Rattle.std.specs.Prelude.{Ok, Err}
use Rattle.word.specs.Refusals.{OrRefused, refuse}

-- no fault, or the first record at fault in a stage
abbrev pub First : Type 0
First = OrRefused (Unit {0})

abbrev pub clean : First
clean = Ok tt

abbrev pub fault : ℕ → ℕ → First
fault number place = refuse number place

-- the first of two, in the order of the records
unfoldable pub or_else : First → First → First
or_else (Ok u) b = b
or_else (Err r) b = Err r

-- a stage that carries something from statement to statement
pub data Walked (A : Type 0) : Type 0 where
  goes : A → Walked A
  stops : ℕ → ℕ → Walked A

unfoldable pub after : {A : Type 0} → First → Walked A → Walked A
after (Ok u) w = w
after (Err r) w = stops r.number r.place

unfoldable pub onward : {A B : Type 0} → Walked A → (A → Walked B) → Walked B
onward (goes a) g = g a
onward (stops number place) g = stops number place

unfoldable pub refuse_if : {A : Type 0} → Bool → ℕ → ℕ → Walked A → Walked A
refuse_if true number place w = stops number place
refuse_if false number place w = w

unfoldable pub ended : {A : Type 0} → Walked A → First
ended (goes a) = clean
ended (stops number place) = fault number place

-- the functions one after another, the first one's FUNC at record `at`
unfoldable pub each_func : (ℕ → Func → First) → ℕ → List Func → First
each_func stage at [] = clean
each_func stage at (f ∷ fs) = or_else (stage at f) (each_func stage (at + size_f f) fs)

-- the FUNC of the first function: after PROGRAM and the arrays
unfoldable pub first_func : Program → ℕ
first_func p = 1 + length p.arrays

unfoldable pub over_program : (ℕ → Func → First) → Program → First
over_program stage p = each_func stage (first_func p) p.funcs
