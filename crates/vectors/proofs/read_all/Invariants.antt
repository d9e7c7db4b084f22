-- `read_all` reads no more than there is room for, and each turn but the last reads a byte at least. Assumes nothing.
use Rattle.std.proofs.Common.{◌-◌, ◌≤◌, length}
use Rattle.vectors.proofs.read_all.Given as goal

abbrev pub invariant-loop-n : goal.invariant-loop-n
invariant-loop-n l = l.n ≤ length l.file

abbrev pub decreases-loop-n : goal.decreases-loop-n
decreases-loop-n l = length l.file - l.n
