-- The first stage as the code has it: its refusals (1 to 7) as a stage's answer, the record that is due, a walk without its tree. Assumes nothing: these are definitions.
use Rattle.std.specs.Prelude.{ℕ, List, Ok, Some, None}
use Rattle.word.specs.Records.{records}
use Rattle.word.specs.Reader.{Read}
use Rattle.word.specs.Refusals.{OrRefused, refuse}
use Rattle.word.specs.declared.Record.{Record}
use Rattle.word.specs.declared.reader.Reader.{Reader}
use Rattle.script.specs.Table.{Lead, node, fault}
use Rattle.script.specs.Parse.{Parsed, parsed, refused, Nest, read_table}
use Rattle.script.specs.Stage.{First, clean}
use Rattle.reading.specs.declared.descent.Nesting.{Nesting}

-- ---- the stage: "1; then 2 to 7 together"
unfoldable pub fault_of : {A : Type 0} → Parsed A → First
fault_of (parsed a i) = clean
fault_of (refused number place) = refuse number place

unfoldable pub structured : List ℕ → First
structured t = fault_of (read_table t)

-- ---- one record
-- the record that is due, with the reader past it
unfoldable pub due_of : List ℕ → Read → OrRefused (Record × Reader)
due_of t (Some found) = Ok found
due_of t None = refuse 3 (records t)

-- whether it leads a part of its class
unfoldable pub leads : {A : Type 0} → Lead A → First
leads (node h) = clean
leads (fault number place) = refuse number place

-- ---- a walk
abbrev pub nested : Nesting → Nest
nested n = record { ifs = n.ifs; fors = n.fors }

-- past what was read, without its tree
unfoldable pub walk_of : {A : Type 0} → Parsed A → OrRefused Reader
walk_of (parsed a i) = Ok (record { at = i })
walk_of (refused number place) = refuse number place
