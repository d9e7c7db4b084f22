-- `stages::types::functions`: between two functions what is left of the walk is the whole walk's answer, with the parameters of those before. Assumes nothing.
use Rattle.std.proofs.Common.{◌≡◌, ◌-◌}
use Rattle.scoping.specs.Passes.{funcs_from}
use Rattle.stages.specs.Typed.{typed_func, nobody}
use Rattle.stages.proofs.types.functions.Given as goal

abbrev pub invariant-loop-f : goal.invariant-loop-f
invariant-loop-f l =
    funcs_from (typed_func l.table) l.table (l.count - l.f) (record { func = l.f; params = l.stage.params }) l.at.at
    ≡ funcs_from (typed_func l.table) l.table l.count nobody l.initial.at.at
