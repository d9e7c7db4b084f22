-- `emitting::expression::expression`: the depth that is left falls. At the loop's head what is left of the walk over the parts, from where it stands, is the walk over
-- all of them. Assumes nothing.
use Rattle.std.proofs.Common.{◌≡◌, ◌-◌}
use Rattle.script.specs.Shape.{times}
use Rattle.emitting.specs.Walking.{desk_of, walk_e}
use Rattle.emitting.proofs.expression.+expression.Given as goal

abbrev pub decreases-expression : goal.decreases-expression
decreases-expression l = l.left

abbrev pub invariant-loop-i : goal.invariant-loop-i
invariant-loop-i l =
    times (l.parts - l.i) (walk_e l.source.params.now l.source.table.now (l.left - 1)) (desk_of l.out l.here)
    ≡ times l.parts (walk_e l.source.params.now l.source.table.now (l.left - 1)) (desk_of l.initial.out l.initial.here)
