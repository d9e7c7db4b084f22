-- `compiler::function::functions`: between two functions what is left of the walk is the whole one's. Assumes nothing.
use Rattle.std.proofs.Common.{◌≡◌, ◌-◌}
use Rattle.emitting.specs.Walking.{desk_of}
use Rattle.compiler.specs.Writing.{rolls, walk_fs}
use Rattle.compiler.proofs.function.functions.Given as goal

abbrev pub invariant-loop-f : goal.invariant-loop-f
invariant-loop-f l =
    walk_fs l.table l.depths (l.n - l.f) l.f (rolls (desk_of l.out l.here) l.params) ≡ walk_fs l.table l.depths l.n 0 (rolls (desk_of l.initial.out l.initial.here) l.initial.params)
