-- `machine::program::list_functions` meets its contract. The invariant: the functions that have begun so far are listed. The measure is what is left of the tape.
-- Assumes nothing.
use Rattle.machine.proofs.Tables.{Found}
use Rattle.machine.proofs.program.list_functions.Given as goal

abbrev pub invariant-loop-at : goal.invariant-loop-at
invariant-loop-at l = Found l.tape l.places l.functions l.at
