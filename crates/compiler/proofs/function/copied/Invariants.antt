-- `compiler::function::copied`: what is left to copy, from where it stands, is the whole. Assumes nothing.
use Rattle.std.proofs.Common.{◌≡◌, ◌-◌}
use Rattle.script.specs.Shape.{times}
use Rattle.emitting.specs.Walking.{desk_of}
use Rattle.compiler.specs.Writing.{copy}
use Rattle.compiler.proofs.function.copied.Given as goal

abbrev pub invariant-loop-i : goal.invariant-loop-i
invariant-loop-i l = times (l.n - l.i) (copy l.table) (desk_of l.out l.here) ≡ times l.n (copy l.table) (desk_of l.initial.out l.initial.here)
