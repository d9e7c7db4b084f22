-- `machine::calls::copy` meets its contract. The invariant: what is left to copy, copied to what is there now, gives the whole. Assumes nothing.
use Rattle.machine.specs.Flat.{copied}
use mathlib.Core.Path.{◌≡◌}
use Prim.Native.Nat.{◌+◌, ◌-◌}
use Rattle.machine.proofs.calls.copy.Given as goal

abbrev pub invariant-loop-k : goal.invariant-loop-k
invariant-loop-k l = copied (l.n - l.k) l.values (l.i + l.k) l.slots (l.j + l.k) ≡ copied l.n l.values l.i l.initial.slots l.j
