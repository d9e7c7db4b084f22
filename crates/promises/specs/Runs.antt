-- What the promises about runs speak of: runs that are not refused, the records that a run goes through, and how it ends apart from its values.
-- Assumes nothing: these are definitions.
use Rattle.std.specs.Prelude.{ℕ, zero, suc, ◌-◌, ◌≡◌, ◌≢◌, List, [], ◌∷◌, length}
use Rattle.word.specs.Bytes.{total}
use Rattle.tape.specs.Instruction.{Code, code_of}
use Rattle.tape.specs.Check.{check}
use Rattle.tape.specs.Entries.{lengths_of, entry_at, exposed}
use Rattle.tape.specs.Rules.{Machine, step, left}
use Rattle.machine.specs.Run.{begin}
use Rattle.machine.specs.declared.Ran.{Ran}
use Rattle.machine.specs.declared.Ran.TheVariants.{Done, Stopped}
use Rattle.std.specs.Prelude.{Ok, Err}
use Rattle.word.specs.Refusals.{OrRefused, refuse}

-- the tape is accepted, with these steps; there are as many arguments as the exposed function takes, and as many bytes as its arrays have
pub record Runs (t arguments memory : List ℕ) (steps : ℕ) : Type 0 where
  pub accepted : check t ≡ Ok steps
  pub arguments_fit : length arguments ≡ (exposed (code_of t)).params
  pub memory_fits : length memory ≡ total (lengths_of (code_of t))

-- why a run is refused: 21 to 30 by the check, then 31, then 32
pub data Turned (t arguments memory : List ℕ) : ℕ → ℕ → Type 0 where
  by_check : {number place : ℕ} → check t ≡ refuse number place → Turned t arguments memory number place
  by_arguments : {steps : ℕ} → check t ≡ Ok steps → length arguments ≢ (exposed (code_of t)).params → Turned t arguments memory 31 0
  by_memory : {steps : ℕ} → check t ≡ Ok steps → length arguments ≡ (exposed (code_of t)).params → length memory ≢ total (lengths_of (code_of t))
      → Turned t arguments memory 32 0

-- the first n records that a run goes through, counted or not, each by its number on the tape
module _ (c : Code) where
  unfoldable pub goes_through : ℕ → Machine → List ℕ
  goes_through zero m = []
  goes_through (suc n) m = (length c - left m) ∷ goes_through n (step (lengths_of c) (entry_at c) m)

abbrev pub records_of : List ℕ → List ℕ → List ℕ → ℕ → List ℕ
records_of t arguments memory n = goes_through (code_of t) n (begin (code_of t) arguments memory)

-- an answer without its value
pub data End : Type 0 where
  done : (steps : ℕ) → End
  stopped : (steps record' : ℕ) → End
  refused : (number place : ℕ) → End

unfoldable pub end_of : OrRefused Ran → End
end_of (Ok (Done value steps)) = done steps
end_of (Ok (Stopped steps record')) = stopped steps record'
end_of (Err r) = refused r.number r.place
