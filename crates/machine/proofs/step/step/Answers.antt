-- `machine::step::step` meets its contract: where a CALL is at hand, the machine is ready for it. Assumes nothing.
use Rattle.tape.proofs.Cases.{read_call}
use Rattle.tape.specs.Instruction.{read}
use mathlib.Core.Path.{sym, ap, ◌∙◌}
use Rattle.machine.proofs.step.step.Goals as goal

pub call-requires-clause-callable : goal.call-requires-clause-callable
call-requires-clause-callable c = c.requires.callable _ (ap read (sym c.record-x.ensures) ∙ read_call c.record-x.result c.in-15.is)
