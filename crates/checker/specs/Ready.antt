-- What the code of one record presupposes of the scan, and what it is asked. No public contract speaks of these. Assumes nothing: these are
-- definitions.
use Rattle.std.specs.Prelude.{◌≡◌, ℕ, ◌≤◌, ◌<◌, true, List, length, slice_index, Option, Some, None, Result, Ok, Err}
use Rattle.word.specs.Records.{same}
use Rattle.word.specs.Reasons.{number_of}
use Rattle.word.specs.declared.Record.{Record}
use Rattle.word.specs.declared.reason.Reason.{Reason}
use Rattle.tape.specs.Instruction.{read, write}
use Rattle.tape.specs.Steps.{most}
use Rattle.tape.specs.Scan.{Due, a_program, an_array, a_function, a_body, nothing, Scan}
use Rattle.tape.specs.Faults.{Asked, asked, due, more, deep, asks, unless, unmet, fault}

-- how many functions are known: fewer than there are while one is still due, and one at least in the end
abbrev pub Room : Due → ℕ → ℕ → Type 0
Room a_program known functions = Unit {0}
Room an_array known functions = known < functions
Room a_function known functions = known < functions
Room a_body known functions = known < functions
Room nothing known functions = 0 < known

-- the bounds that a scan keeps
pub record Within (s : Scan) : Type 0 where
  pub functions : s.functions ≤ 16
  pub known : length s.known ≤ 16
  pub room : Room s.due (length s.known) s.functions
  pub slots : s.slots ≤ 64
  pub operands : s.body.operands ≤ 128
  pub loops : deep s ≤ 8

pub record Ready (s : Scan) (x : Record) : Type 0 where
  pub within : Within s
  pub clear : fault s x ≡ 0

-- 24, 25, 27, 28: what a record of a kind that is due asks for, but for its slot
abbrev pub spared : Asked → Asked
spared a = asked a.range a.loops a.operands true

unfoldable pub fields_fault : Scan → Record → ℕ
fields_fault s x = unless (same x (write (read x))) 24 (unmet (spared (asks s (read x))))

unfoldable pub fault_but : Scan → Record → ℕ
fault_but s x = unless (more s.due) 26 (unless (due s.due x.kind) 22 (fields_fault s x))

-- the number of the fault that an answer names, 0 for none
unfoldable pub said : Result (Unit {0}) Reason → ℕ
said (Ok u) = 0
said (Err r) = number_of r

-- the first of the known functions whose steps are over the limit
abbrev pub FirstOver : List ℕ → ℕ → Option ℕ → Type 0
FirstOver steps known None = (i : ℕ) → i < known → slice_index steps i ≤ most
FirstOver steps known (Some f) = (f < known) × ((i : ℕ) → i < f → slice_index steps i ≤ most) × (most < slice_index steps f)
