-- The invariants of the scan's two loops: between two records what is left of the scan is the whole scan's answer, and the search knows of each
-- body that it has left that it does not show the slot. Assumes nothing.
use Prim.Native.Nat.{◌-◌, ◌≤◌}
use mathlib.Core.Path.{◌≡◌}
use Rattle.std.specs.Prelude.{Ok}
use Rattle.word.specs.Records.{records}
use Rattle.checker.specs.Standing.{scope_at}
use Rattle.checker.proofs.Scanned.{Stands}
use Rattle.checker.proofs.check.scan.Given as goal

-- no body that was searched, from the first to d, shows the slot
abbrev pub invariant-bodies : goal.invariant-bodies
invariant-bodies l =
    (l.d ≤ l.initial.d) × (l.found ≡ l.initial.found)
    × (scope_at l.s.params l.bodies l.initial.d l.x.p ≡ scope_at l.s.params l.bodies l.d l.x.p)

abbrev pub decreases-bodies : goal.decreases-bodies
decreases-bodies l = l.d

abbrev pub invariant-scan : goal.invariant-scan
invariant-scan l =
    (l.found ≡ Ok tt) × Stands l.tape l.s l.functions l.bodies l.at.at

abbrev pub decreases-scan : goal.decreases-scan
decreases-scan l = records l.tape - l.at.at
