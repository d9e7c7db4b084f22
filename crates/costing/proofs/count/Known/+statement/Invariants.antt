-- `costing::count::Known::statement`: the depth that is left falls. At the loop's head what is left of the count of a sequence, from where it stands, is the count of
-- all of it. Assumes nothing.
use Rattle.std.proofs.Common.{◌≡◌, ◌-◌}
use Rattle.script.specs.Shape.{times}
use Rattle.costing.specs.Counting.{statement}
use Rattle.costing.proofs.count.Known.+statement.Given as goal

abbrev pub decreases-statement : goal.decreases-statement
decreases-statement l = l.left

abbrev pub invariant-loop-i : goal.invariant-loop-i
invariant-loop-i l =
    times (l.parts - l.i) (statement l.self.params l.self.steps l.table (l.left - 1) l.ifs) l.last
    ≡ times l.parts (statement l.self.params l.self.steps l.table (l.left - 1) l.ifs) l.initial.last
