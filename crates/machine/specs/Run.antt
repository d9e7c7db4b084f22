-- The machine's whole answer (01, "Refusal numbers", "The core tape"): 21 to 30, then 31, 32; else what the core rules give under the step limit.
-- Assumes nothing: these are definitions.
use Rattle.std.specs.Prelude.{ℕ, Bool, true, false, List, [], ◌∷◌, length, eqb}
use Rattle.word.specs.Slots.{fresh}
use Rattle.word.specs.Bytes.{total}
use Rattle.tape.specs.Instruction.{Code, code_of}
use Rattle.tape.specs.Check.{check, Checked}
use Rattle.tape.specs.Entries.{lengths_of, entry_at, exposed}
use Rattle.tape.specs.Rules.{Machine, at, halted, stuck, stands, place}
use Rattle.machine.specs.declared.Ran.{Ran}
use Rattle.machine.specs.declared.Ran.TheVariants.{Done, Stopped}
use Rattle.std.specs.Prelude.{Ok, Err}
use Rattle.word.specs.Refusals.{OrRefused, refuse}

-- "The run begins inside the exposed function; entering it isn't counted."
unfoldable pub begin : Code → List ℕ → List ℕ → Machine
begin c arguments memory = at (exposed c).code [] (fresh arguments) [] [] (record { bytes = memory; steps = 0 })

-- where it stands after n counted steps
unfoldable pub after : Code → List ℕ → List ℕ → ℕ → Machine
after c arguments memory n = stands (lengths_of c) (entry_at c) n (begin c arguments memory)

-- the answer, and the memory at exit
pub record Result : Type 0 where
  pub answer : OrRefused Ran
  pub memory : List ℕ

-- "Stopped: the steps done and the record of the next counted step. Done: value and steps" (no accepted tape is stuck)
unfoldable pub result_of : Code → Machine → Result
result_of c (at d s τ L F w) = record { answer = Ok (Stopped w.steps (place (length c) d L)); memory = w.bytes }
result_of c (halted v w) = record { answer = Ok (Done v w.steps); memory = w.bytes }
result_of c stuck = record { answer = Ok (Stopped 0 0); memory = [] }

abbrev pub refused : ℕ → ℕ → List ℕ → Result
refused number place memory = record { answer = refuse number place; memory = memory }

unfoldable pub unless : Bool → Result → Result → Result
unless true r rest = rest
unless false r rest = r

-- 31: "wrong number of arguments (place 0)"; 32: "memory isn't the sum of the array lengths (place 0)"; else "a run takes a step limit and stops
-- after exactly that many counted steps, unless it is done"
unfoldable pub admitted : Code → List ℕ → List ℕ → ℕ → Result
admitted c arguments memory limit =
    unless (eqb (length arguments) (exposed c).params) (refused 31 0 memory)
    (unless (eqb (length memory) (total (lengths_of c))) (refused 32 0 memory)
    (result_of c (after c arguments memory limit)))

unfoldable pub run_by : Checked → Code → List ℕ → List ℕ → ℕ → Result
run_by (Err r) c arguments memory limit = refused r.number r.place memory
run_by (Ok steps) c arguments memory limit = admitted c arguments memory limit

unfoldable pub run : List ℕ → List ℕ → List ℕ → ℕ → Result
run t arguments memory limit = run_by (check t) (code_of t) arguments memory limit

-- what an answer says, in 01's terms: the case, with a refusal's number, and the values that go with it
pub data Case : Type 0 where
  done stopped : Case
  refusal : ℕ → Case

unfoldable pub case_of : OrRefused Ran → Case
case_of (Ok (Done value steps)) = done
case_of (Ok (Stopped steps record')) = stopped
case_of (Err r) = refusal r.number

unfoldable pub values_of : OrRefused Ran → List ℕ
values_of (Ok (Done value steps)) = value ∷ steps ∷ []
values_of (Ok (Stopped steps record')) = steps ∷ record' ∷ []
values_of (Err r) = r.place ∷ []
