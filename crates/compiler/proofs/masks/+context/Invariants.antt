-- `compiler::masks::context`, each call of which writes one IF's condition: the number of IFs falls. Assumes nothing.
use Rattle.compiler.proofs.masks.+context.Given as goal

abbrev pub decreases-context : goal.decreases-context
decreases-context l = l.place.ifs
