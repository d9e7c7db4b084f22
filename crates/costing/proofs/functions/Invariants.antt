-- `costing::functions`: between two functions what is left of the count is the whole one's. Assumes nothing.
use Rattle.std.proofs.Common.{◌≡◌, ◌-◌}
use Rattle.costing.specs.Totals.{totals, functions_from}
use Rattle.costing.proofs.functions.Given as goal

abbrev pub invariant-loop-f : goal.invariant-loop-f
invariant-loop-f l =
    functions_from l.table (l.n - l.f) l.f (totals l.here l.known.params l.known.steps l.depths)
    ≡ functions_from l.table l.n 0 (totals l.initial.here l.initial.known.params l.initial.known.steps l.initial.depths)
