-- Where the functions and the arrays of an accepted tape stand: the scan's known functions are the tape's entries, and its arrays are records 1 on.
-- Assumes nothing.
use mathlib.Core.Path.{◌≡◌, refl}
use mathlib.Core.Bool.{true, false≢true}
use mathlib.Core.List.{List}
use mathlib.Core.Logic.{◌⊎◌}
use Prim.Native.Nat.{ℕ, suc, ◌≤◌, ◌<◌}
use native.Mathlib.Omega.{arith}
use borrow.Author.Tests.{eqb-true}
use lib.ListN.{length}
use Rattle.word.specs.Records.{records, record_at}
use Rattle.tape.specs.Instruction.{cfunc, read, code_of}
use Rattle.tape.specs.Scan.{Due, a_program, an_array, a_function, a_body, nothing, Scan, known_at}
use Rattle.tape.specs.Faults.{due, more}
use Rattle.tape.proofs.Places.{scan_at}
use Rattle.tape.proofs.Declaring.{arrays_before, functions_before}

-- what a due record says of the state: which records may stand there
pub is_body : (d : Due) (k : ℕ) → more d ≡ true → due d k ≡ true → 10 ≤ k → d ≡ a_body
unfolding due more
is_body a_program k m e h = let q = eqb-true k 1 e in absurd (omega arith)
is_body an_array k m e h = let q = eqb-true k 2 e in absurd (omega arith)
is_body a_function k m e h = let q = eqb-true k 3 e in absurd (omega arith)
is_body a_body k m e h = refl
is_body nothing k m e h = absurd (false≢true m)

pub is_function : (d : Due) (k : ℕ) → more d ≡ true → due d k ≡ true → k ≡ 3 → d ≡ a_function
unfolding due more
is_function a_program k m e h = let q = eqb-true k 1 e in absurd (omega arith)
is_function an_array k m e h = let q = eqb-true k 2 e in absurd (omega arith)
is_function a_function k m e h = refl
is_function a_body k m e h = absurd (false≢true (rw h at e))
is_function nothing k m e h = absurd (false≢true m)

pub is_array : (d : Due) (k : ℕ) → more d ≡ true → due d k ≡ true → k ≡ 2 → d ≡ an_array
unfolding due more
is_array a_program k m e h = let q = eqb-true k 1 e in absurd (omega arith)
is_array an_array k m e h = refl
is_array a_function k m e h = let q = eqb-true k 3 e in absurd (omega arith)
is_array a_body k m e h = absurd (false≢true (rw h at e))
is_array nothing k m e h = absurd (false≢true m)

pub is_program : (d : Due) (k : ℕ) → more d ≡ true → due d k ≡ true → k ≡ 1 → d ≡ a_program
unfolding due more
is_program a_program k m e h = refl
is_program an_array k m e h = let q = eqb-true k 2 e in absurd (omega arith)
is_program a_function k m e h = let q = eqb-true k 3 e in absurd (omega arith)
is_program a_body k m e h = absurd (false≢true (rw h at e))
is_program nothing k m e h = absurd (false≢true m)

-- how many functions have begun, where so many are known
unfoldable pub began : Due → ℕ → ℕ
began a_program k = k
began an_array k = k
began a_function k = k
began a_body k = suc k
began nothing k = k

-- the CFUNC of function f is record `place`
pub record StandsAt (t : List ℕ) (f place params slots : ℕ) : Type 0 where
  pub there : place < records t
  pub is : read (record_at t place) ≡ cfunc params slots
  pub rank : length (scan_at t place).known ≡ f
  pub due_there : (scan_at t place).due ≡ a_function

-- of the state s before record i
pub record Placed (t : List ℕ) (i : ℕ) (s : Scan) : Type 0 where
  pub begun : functions_before i (code_of t) ≡ began s.due (length s.known)
  pub present : s.due ≡ a_body → StandsAt t (length s.known) s.place s.params s.slots
  pub known : (f : ℕ) → f < length s.known → (q : ℕ) × StandsAt t f (known_at s f).place (known_at s f).params q
  pub arraying : s.due ≡ an_array → (suc (arrays_before i (code_of t)) ≡ i) × (i ≤ s.arrays)
  pub arrayed_all : (s.due ≡ a_function) ⊎ ((s.due ≡ a_body) ⊎ (s.due ≡ nothing)) → arrays_before i (code_of t) ≡ s.arrays
  pub first : s.due ≡ a_program → i ≡ 0
  pub zeroth : i ≡ 0 → s.due ≡ a_program
  pub arrays_are : 0 < i → s.arrays ≡ (record_at t 0).q
