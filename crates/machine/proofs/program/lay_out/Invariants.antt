-- `machine::program::lay_out` meets its contract. The invariant: the arrays before this one are laid out, and the sum is where this one begins. The measure is
-- how many are left. Assumes nothing.
use Rattle.machine.proofs.Tables.{Laid}
use Rattle.machine.proofs.program.lay_out.Given as goal

abbrev pub invariant-loop-a : goal.invariant-loop-a
invariant-loop-a l = Laid l.tape l.starts l.bytes l.a
