-- `scoping::scope::expressions`: between two records what is left of the scan is the whole scan's answer. Assumes nothing.
use Rattle.std.proofs.Common.{◌≡◌, ◌-◌}
use Rattle.word.specs.Records.{records}
use Rattle.scoping.specs.Passes.{past}
use Rattle.scoping.specs.Scoped.{seek}
use Rattle.script.proofs.Leading.{from}
use Rattle.scoping.proofs.scope.expressions.Given as goal

abbrev pub invariant-loop-x : goal.invariant-loop-x
invariant-loop-x l = past (seek l.slots l.at.at (from l.table l.at.at)) ≡ past (seek l.slots l.initial.at.at (from l.table l.initial.at.at))

abbrev pub decreases-loop-x : goal.decreases-loop-x
decreases-loop-x l = records l.table - l.at.at
