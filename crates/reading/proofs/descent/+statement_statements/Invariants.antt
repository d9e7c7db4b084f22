-- The cycle of calls {statement, statements}. `statement` calls `statements` with one less left, and that calls `statement` with as much: so twice
-- what is left, and one more for `statements`, falls. In the loop what is left of the run is the whole run. Assumes nothing.
use Rattle.std.proofs.Common.{◌≡◌, ◌+◌, ◌-◌}
use Rattle.script.specs.Parse.{parse_s}
use Rattle.reading.specs.Structure.{nested, walk_of}
use Rattle.reading.proofs.Descending.{run}
use Rattle.reading.proofs.descent.+statement_statements.Given as goal

abbrev pub decreases-statement : goal.decreases-statement
decreases-statement l = l.left + l.left

abbrev pub decreases-statements : goal.decreases-statements
decreases-statements l = l.left + l.left + 1

abbrev pub invariant-statements-loop-i : goal.invariant-statements-loop-i
invariant-statements-loop-i l =
    run (λ j. walk_of (parse_s l.left (nested l.round) l.env l.table j)) (l.count - l.i) l.here.at ≡ run (λ j. walk_of (parse_s l.left (nested l.round) l.env l.table j)) l.count l.initial.here.at
