-- `compiler::statement::statement`: the depth that is left falls. At the loop's head what is left of the walk over a sequence, from where it stands, is the walk over all
-- of it. Assumes nothing.
use Rattle.std.proofs.Common.{◌≡◌, ◌-◌}
use Rattle.script.specs.Shape.{times}
use Rattle.translation.specs.Translate.{layout}
use Rattle.emitting.specs.Walking.{desk_of, walk_s}
use Rattle.compiler.proofs.statement.+statement.Given as goal

abbrev pub decreases-statement : goal.decreases-statement
decreases-statement l = l.left

abbrev pub invariant-loop-i : goal.invariant-loop-i
invariant-loop-i l =
    times (l.parts - l.i) (walk_s l.source.params.now l.source.table.now (layout l.place.slots) (l.left - 1) l.place.ifs) (desk_of l.out l.last)
    ≡ times l.parts (walk_s l.source.params.now l.source.table.now (layout l.place.slots) (l.left - 1) l.place.ifs) (desk_of l.initial.out l.initial.last)
