-- `reading::structure::arrays`: what is left of the arrays at the loop's head is the whole walk. Assumes nothing.
use Rattle.std.proofs.Common.{◌≡◌, ◌-◌}
use Rattle.script.specs.Parse.{parse_arrays}
use Rattle.reading.specs.Structure.{walk_of}
use Rattle.reading.proofs.structure.arrays.Given as goal

abbrev pub invariant-loop-i : goal.invariant-loop-i
invariant-loop-i l = walk_of (parse_arrays (l.count - l.i) l.table l.here.at) ≡ walk_of (parse_arrays l.count l.table l.initial.here.at)
