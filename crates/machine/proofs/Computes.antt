-- Everything that computes in this crate's definitions, and in those below, opened by one name: `unfolding machine_computes`. Assumes nothing.
use Prim.Native.Nat.{ℕ}

unfoldable pub machine_computes : ℕ
unfolding Rattle.machine.specs.Run.begin Rattle.machine.specs.Run.after Rattle.machine.specs.Run.result_of Rattle.machine.specs.Run.unless Rattle.machine.specs.Run.admitted Rattle.machine.specs.Run.run_by Rattle.machine.specs.Run.run Rattle.machine.specs.Run.case_of Rattle.machine.specs.Run.values_of Rattle.tape.proofs.Computes.tape_computes
machine_computes = 0
