-- `scoping::scope::functions`: between two functions what is left of the walk is the whole walk's answer. Assumes nothing.
use Rattle.std.proofs.Common.{◌≡◌, ◌-◌}
use Rattle.scoping.specs.Passes.{funcs_from}
use Rattle.scoping.specs.Scoped.{scoped_func}
use Rattle.scoping.proofs.scope.functions.Given as goal

abbrev pub invariant-loop-f : goal.invariant-loop-f
invariant-loop-f l = funcs_from (scoped_func l.table) l.table (l.count - l.f) tt l.at.at ≡ funcs_from (scoped_func l.table) l.table l.count tt l.initial.at.at
