-- `costing::count::Known::expression`: between two records what is left of the tally is the whole one's. Assumes nothing.
use Rattle.std.proofs.Common.{◌≡◌, ◌-◌}
use Rattle.word.specs.Records.{records}
use Rattle.script.proofs.Leading.{from}
use Rattle.costing.specs.Counting.{tally}
use Rattle.costing.proofs.count.Known.expression.Given as goal

abbrev pub invariant-loop-parts : goal.invariant-loop-parts
invariant-loop-parts l =
    tally l.self.params l.self.steps (from l.table l.here.at.at) l.parts l.here
    ≡ tally l.self.params l.self.steps (from l.table l.initial.here.at.at) l.initial.parts l.initial.here

abbrev pub decreases-loop-parts : goal.decreases-loop-parts
decreases-loop-parts l = records l.table - l.here.at.at
