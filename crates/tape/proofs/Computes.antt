-- Everything that computes in this crate's definitions, and in those below, opened by one name: `unfolding tape_computes`. Assumes nothing.
use Prim.Native.Nat.{ℕ}

unfoldable pub tape_computes : ℕ
unfolding Rattle.tape.specs.Instruction.write Rattle.tape.specs.Instruction.read Rattle.tape.specs.Instruction.code_of Rattle.tape.specs.Instruction.words Rattle.tape.specs.Tape.tape_e Rattle.tape.specs.Tape.tape_es Rattle.tape.specs.Tape.tape_s Rattle.tape.specs.Tape.tape_f Rattle.tape.specs.Tape.tape_fs Rattle.tape.specs.Tape.tape_arrays Rattle.tape.specs.Tape.instructions Rattle.tape.specs.Tape.tape Rattle.tape.specs.Steps.steps_e Rattle.tape.specs.Steps.steps_es Rattle.tape.specs.Steps.steps_s Rattle.tape.specs.Steps.steps_f Rattle.tape.specs.Steps.steps_from Rattle.tape.specs.Steps.steps_of Rattle.tape.specs.Steps.steps_exposed Rattle.tape.specs.Scan.opening Rattle.tape.specs.Scan.start Rattle.tape.specs.Scan.leaves Rattle.tape.specs.Scan.states Rattle.tape.specs.Scan.opens Rattle.tape.specs.Scan.close_by Rattle.tape.specs.Scan.closes Rattle.tape.specs.Scan.in_body Rattle.tape.specs.Scan.headed Rattle.tape.specs.Scan.arrayed Rattle.tape.specs.Scan.enters Rattle.tape.specs.Scan.returns Rattle.tape.specs.Scan.next Rattle.tape.specs.Faults.due Rattle.tape.specs.Faults.more Rattle.tape.specs.Faults.takes Rattle.tape.specs.Faults.just Rattle.tape.specs.Faults.readable Rattle.tape.specs.Faults.settable Rattle.tape.specs.Faults.definable Rattle.tape.specs.Faults.unnamed Rattle.tape.specs.Faults.asks Rattle.tape.specs.Faults.unless Rattle.tape.specs.Faults.unmet Rattle.tape.specs.Faults.fault Rattle.tape.specs.Check.unless_over Rattle.tape.specs.Check.within Rattle.tape.specs.Check.at_end Rattle.tape.specs.Check.judge Rattle.tape.specs.Check.scan Rattle.tape.specs.Check.check Rattle.tape.specs.Entries.declares Rattle.tape.specs.Entries.with_length Rattle.tape.specs.Entries.lengths_of Rattle.tape.specs.Entries.with_entry Rattle.tape.specs.Entries.entries_of Rattle.tape.specs.Rules.tick Rattle.tape.specs.Rules.stored Rattle.tape.specs.Rules.one Rattle.tape.specs.Rules.two Rattle.tape.specs.Rules.grab Rattle.tape.specs.Rules.past Rattle.tape.specs.Rules.pass Rattle.tape.specs.Rules.again Rattle.tape.specs.Rules.ending Rattle.tape.specs.Rules.back Rattle.tape.specs.Rules.exec Rattle.tape.specs.Rules.step Rattle.tape.specs.Rules.turn_for Rattle.tape.specs.Rules.turn_end Rattle.tape.specs.Rules.turn_loops Rattle.tape.specs.Rules.turn Rattle.tape.specs.Rules.is_free Rattle.tape.specs.Rules.quiet Rattle.tape.specs.Rules.left Rattle.tape.specs.Rules.settle Rattle.tape.specs.Rules.stands Rattle.tape.specs.Rules.place_by Rattle.tape.specs.Rules.place Rattle.word.proofs.Computes.word_computes
tape_computes = 0
