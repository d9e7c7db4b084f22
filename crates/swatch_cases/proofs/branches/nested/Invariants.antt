-- `nested` keeps within the table. Assumes nothing.
use Prim.Native.Nat.{◌≤◌}
use lib.ListN.{length}
use Rattle.swatch_cases.proofs.branches.nested.Given as goal

abbrev pub invariant-loop : goal.invariant-loop
invariant-loop l = l.at ≤ length l.table

abbrev pub invariant-loop-2 : goal.invariant-loop-2
invariant-loop-2 l = l.at ≤ length l.table
