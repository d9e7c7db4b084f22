-- What a reader finds: the record that it stands at, with itself moved past it; or none, at the end (01, "a cursor that moves by whole records and
-- hands itself back"). Assumes nothing: these are definitions.
use Rattle.std.specs.Prelude.{ℕ, ◌+◌, Bool, true, false, List, nat_lt, Option, Some, None}
use Rattle.word.specs.Records.{records, record_at}
use Rattle.word.specs.declared.Record.{Record}
use Rattle.word.specs.declared.reader.Reader.{Reader}

abbrev pub Read : Type 0
Read = Option (Record × Reader)

unfoldable pub found_if : Bool → List ℕ → ℕ → Read
found_if true t at = Some (record_at t at, record { at = at + 1 })
found_if false t at = None

unfoldable pub read_at : List ℕ → ℕ → Read
read_at t at = found_if (nat_lt at (records t)) t at
