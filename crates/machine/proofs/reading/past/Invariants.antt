-- `machine::reading::past` meets its contract. The invariant: what follows the loop is what follows, from here, the loops that are open in it. Assumes nothing.
use Rattle.tape.specs.Rules.{past}
use Rattle.tape.specs.Instruction.{code_of}
use lib.ListN.{drop}
use Prim.Native.Nat.{◌+◌, ◌≤◌}
use mathlib.Core.Path.{◌≡◌}
use Rattle.machine.proofs.reading.past.Given as goal

abbrev pub invariant-loop-at : goal.invariant-loop-at
invariant-loop-at l =
    (l.inside ≤ l.at) × (past l.inside (drop l.at (code_of l.tape)) ≡ past 0 (drop (l.i + 1) (code_of l.tape)))
