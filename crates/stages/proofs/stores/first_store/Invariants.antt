-- `stages::stores::first_store` meets its contract: between two records what is left of the scan is the whole scan's answer. Assumes nothing.
use Prim.Native.Nat.{◌-◌}
use mathlib.Core.Path.{◌≡◌}
use Rattle.word.specs.Records.{records}
use Rattle.stages.specs.Stored.{storing}
use Rattle.script.proofs.Leading.{from}
use Rattle.stages.proofs.stores.first_store.Given as goal

abbrev pub invariant-loop-x : goal.invariant-loop-x
invariant-loop-x l = storing l.left l.at.at (from l.table l.at.at) ≡ storing l.initial.left l.initial.at.at (from l.table l.initial.at.at)

abbrev pub decreases-loop-x : goal.decreases-loop-x
decreases-loop-x l = records l.table - l.at.at
