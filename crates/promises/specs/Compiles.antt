-- What the promises about the compiler speak of: the tape that it leaves, and what a script takes. Assumes nothing: these are definitions.
use Rattle.std.specs.Prelude.{ℕ, ◌*◌, ◌<◌, ◌≡◌, List, [], ◌∷◌, length, take, drop}
use Rattle.word.specs.Records.{records}
use Rattle.script.specs.Tree.{Func, Program}
use Rattle.script.specs.Parse.{parsed, refused, read_table}
use Rattle.tape.specs.Tape.{tape}
use Rattle.tape.specs.Steps.{steps_exposed}
use Rattle.translation.specs.Translate.{translate}
use Rattle.translation.specs.Compile.{stages, first_of, compile}
use Rattle.std.specs.Prelude.{Ok}
use Rattle.word.specs.Refusals.{refuse}

-- the words of the records written
abbrev pub tape_left : List ℕ → List ℕ → ℕ → List ℕ
tape_left table out n = take (n * 4) (compile table out).out

-- the script of an accepted table, which passes every stage; the tape of its translation stands in the output, n records with so many steps, and nothing else of it has changed
pub record TapeOf (table out : List ℕ) (n steps : ℕ) : Type 0 where
  pub script : Program
  pub reads : read_table table ≡ parsed script (records table)
  pub passes : first_of stages script ≡ Ok tt
  pub is_tape : tape_left table out n ≡ tape (translate script)
  pub unchanged : drop (n * 4) (compile table out).out ≡ drop (n * 4) out
  pub as_long : length (compile table out).out ≡ length out
  pub records_are : n ≡ records (tape (translate script))
  pub steps_are : steps ≡ steps_exposed (translate script)

-- how many arguments the exposed function takes, the last one
unfoldable pub takes : List Func → ℕ
takes [] = 0
takes (f ∷ []) = f.params
takes (f ∷ g ∷ fs) = takes (g ∷ fs)

-- why a table is refused: 1 to 7 in reading it, 8 to 12 in the first stage that finds a fault, 13 for want of room
pub data Faulty (table out : List ℕ) : ℕ → ℕ → Type 0 where
  by_reading : {number place : ℕ} → read_table table ≡ refused number place → Faulty table out number place
  by_stage : {p : Program} {i number place : ℕ} → read_table table ≡ parsed p i → first_of stages p ≡ refuse number place → Faulty table out number place
  by_room : {p : Program} {i : ℕ} → read_table table ≡ parsed p i → first_of stages p ≡ Ok tt → length out < length (tape (translate p))
      → Faulty table out 13 (records (tape (translate p)))
