-- `machine::course::execute` meets its contract. The invariant: the flat state stands for a machine of the rules, from which the steps still allowed lead
-- where the whole limit leads from the start. The measure is what is left to do. Assumes nothing.
use Rattle.machine.proofs.Sofar.{Sofar}
use Rattle.machine.proofs.Going.{work_left}
use Rattle.machine.specs.Flat.{flat_of}
use Rattle.machine.proofs.course.execute.Given as goal

abbrev pub invariant-loop-stacks : goal.invariant-loop-stacks
invariant-loop-stacks l =
    Sofar l.program.tape.now l.program.starts l.program.places l.program.first l.arguments l.initial.memory l.limit (flat_of l.g l.stacks l.memory)

abbrev pub decreases-loop-stacks : goal.decreases-loop-stacks
decreases-loop-stacks l =
    work_left l.program.tape.now l.limit l.g.steps l.g.at
