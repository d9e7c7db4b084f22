-- `reading::structure::program` has sixteen functions at most to read: PROGRAM's record leads. Assumes nothing.
use Rattle.std.proofs.Common.{sym}
use Rattle.script.specs.Parse.{nowhere}
use Rattle.reading.proofs.Programs.{program_room}
use Rattle.reading.proofs.structure.program.Goals as goal

pub functions-requires : goal.functions-requires
functions-requires c = program_room (nowhere 0) _ _ (sym (c.in_ok-program_leads.ensures (nowhere 0)))
