-- The compiler's whole answer (01, "Refusal numbers"): 1 to 7; then stage by stage 8 and 9, 10, 11, 12; 13 last; else the tape.
-- Assumes nothing: these are definitions.
use Rattle.std.specs.Prelude.{ℕ, ◌+◌, Bool, true, false, List, [], ◌∷◌, length, leb}
use Rattle.std.proofs.lemmas.List.Edits.{sets}
use Rattle.word.specs.Records.{records}
use Rattle.script.specs.Tree.{Func, Program, size_f}
use Rattle.script.specs.Parse.{Parsed, parsed, refused, read_table}
use Rattle.script.specs.Stage.{clean, fault, or_else, first_func, over_program}
use Rattle.script.specs.Scope.{scope_f}
use Rattle.script.specs.Types.{type_f}
use Rattle.script.specs.Stores.{stores}
use Rattle.script.specs.Stage.{First}
use Rattle.tape.specs.Tape.{tape}
use Rattle.tape.specs.Steps.{most, steps_of, steps_exposed}
use Rattle.translation.specs.Translate.{translate}
use Rattle.translation.specs.declared.Tape.{Tape}
use Rattle.std.specs.Prelude.{Ok, Err}
use Rattle.word.specs.Refusals.{OrRefused, refuse}

-- 12: "a function's steps, its calls included, over 1,000,000,000", at its FUNC
unfoldable pub unless_over : Bool → ℕ → First → First
unless_over true place rest = rest
unless_over false place rest = fault 12 place

unfoldable pub within : ℕ → List Func → List ℕ → First
within at [] steps = clean
within at (f ∷ fs) [] = clean
within at (f ∷ fs) (n ∷ steps) = unless_over (leb n most) at (within (at + size_f f) fs steps)

unfoldable pub costs : Program → First
costs p = within (first_func p) p.funcs (steps_of (translate p))

-- "Stages: 1; then 2 to 7 together; 8 and 9; 10; 11; 12; 13": those between reading and 13
unfoldable pub stages : List (Program → First)
stages = over_program scope_f ∷ over_program type_f ∷ stores ∷ costs ∷ []

unfoldable pub first_of : List (Program → First) → Program → First
first_of [] p = clean
first_of (stage ∷ rest) p = or_else (stage p) (first_of rest p)

abbrev pub announced : ℕ → ℕ → Tape
announced records' steps = record { records = records'; steps = steps }

-- accepted, with the tape's records and steps; or refused
abbrev pub Compiled : Type 0
Compiled = OrRefused Tape

-- the answer, and the output at exit: "Accepted: records written and the exposed function's steps; only those records change"
pub record Result : Type 0 where
  pub answer : Compiled
  pub out : List ℕ

-- 13: "output has fewer than four words for each record needed", place "records needed"
unfoldable pub written : Bool → Program → List ℕ → Result
written true p out =
    record { answer = Ok (announced (records (tape (translate p))) (steps_exposed (translate p))); out = sets out 0 (tape (translate p)) }
written false p out = record { answer = refuse 13 (records (tape (translate p))); out = out }

unfoldable pub unless_fault : First → Program → List ℕ → Result
unless_fault (Ok u) p out = written (leb (length (tape (translate p))) (length out)) p out
unless_fault (Err r) p out = record { answer = Err r; out = out }

unfoldable pub compile_by : Parsed Program → List ℕ → Result
compile_by (parsed p i) out = unless_fault (first_of stages p) p out
compile_by (refused number place) out = record { answer = refuse number place; out = out }

unfoldable pub compile : List ℕ → List ℕ → Result
compile table out = compile_by (read_table table) out

-- what an answer says, in 01's terms: the case, with a refusal's number, and the values that go with it
pub data Case : Type 0 where
  accepted : Case
  refusal : ℕ → Case

unfoldable pub case_of : Compiled → Case
case_of (Ok w) = accepted
case_of (Err r) = refusal r.number

unfoldable pub values_of : Compiled → List ℕ
values_of (Ok w) = w.records ∷ w.steps ∷ []
values_of (Err r) = r.place ∷ []
