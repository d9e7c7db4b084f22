-- `word::sets::below`: after p turns the slots below p are in the set. Assumes nothing.
use Rattle.std.proofs.Common.{◌≡◌}
use Rattle.word.specs.Sets.{below}
use Rattle.word.proofs.sets.below.Given as goal

abbrev pub invariant-loop-p : goal.invariant-loop-p
invariant-loop-p l = l.members ≡ below l.p
