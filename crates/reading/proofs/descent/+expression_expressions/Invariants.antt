-- The cycle of calls {expression, expressions}. `expression` calls `expressions` with one less left, and that calls `expression` with as much: so twice
-- what is left, and one more for `expressions`, falls. In the loop what is left of the run is the whole run. Assumes nothing.
use Rattle.std.proofs.Common.{◌≡◌, ◌+◌, ◌-◌}
use Rattle.script.specs.Parse.{parse_e}
use Rattle.reading.specs.Structure.{walk_of}
use Rattle.reading.proofs.Descending.{run}
use Rattle.reading.proofs.descent.+expression_expressions.Given as goal

abbrev pub decreases-expression : goal.decreases-expression
decreases-expression l = l.left + l.left

abbrev pub decreases-expressions : goal.decreases-expressions
decreases-expressions l = l.left + l.left + 1

abbrev pub invariant-expressions-loop-i : goal.invariant-expressions-loop-i
invariant-expressions-loop-i l =
    run (λ j. walk_of (parse_e l.left l.env l.table j)) (l.count - l.i) l.here.at ≡ run (λ j. walk_of (parse_e l.left l.env l.table j)) l.count l.initial.here.at
