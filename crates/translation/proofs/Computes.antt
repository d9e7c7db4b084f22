-- Everything that computes in this crate's definitions, and in those below, opened by one name: `unfolding translation_computes`. Assumes nothing.
use Prim.Native.Nat.{ℕ}

unfoldable pub translation_computes : ℕ
unfolding Rattle.translation.specs.Translate.lowered Rattle.translation.specs.Translate.EXT Rattle.translation.specs.Translate.EXTs Rattle.translation.specs.Translate.context Rattle.translation.specs.Translate.masking Rattle.translation.specs.Translate.merge Rattle.translation.specs.Translate.STT Rattle.translation.specs.Translate.STTs Rattle.translation.specs.Translate.depth Rattle.translation.specs.Translate.depths Rattle.translation.specs.Translate.FDEFT Rattle.translation.specs.Translate.translate Rattle.translation.specs.Compile.unless_over Rattle.translation.specs.Compile.within Rattle.translation.specs.Compile.costs Rattle.translation.specs.Compile.stages Rattle.translation.specs.Compile.first_of Rattle.translation.specs.Compile.written Rattle.translation.specs.Compile.unless_fault Rattle.translation.specs.Compile.compile_by Rattle.translation.specs.Compile.compile Rattle.translation.specs.Compile.case_of Rattle.translation.specs.Compile.values_of Rattle.script.proofs.Computes.script_computes Rattle.tape.proofs.Computes.tape_computes
translation_computes = 0
