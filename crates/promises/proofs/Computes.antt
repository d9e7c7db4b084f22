-- Everything that computes in this crate's definitions, and in those below, opened by one name: `unfolding promises_computes`. Assumes nothing.
use Prim.Native.Nat.{ℕ}

unfoldable pub promises_computes : ℕ
unfolding Rattle.promises.specs.Swatches.sames Rattle.promises.specs.Swatches.is_accepted Rattle.promises.specs.Swatches.is_done Rattle.promises.specs.Swatches.is_stopped Rattle.promises.specs.Swatches.blank Rattle.promises.specs.Swatches.compiles Rattle.promises.specs.Swatches.runs Rattle.promises.specs.Swatches.means Rattle.promises.specs.Swatches.first_value Rattle.promises.specs.Swatches.holds Rattle.promises.specs.Swatches.all Rattle.promises.specs.Swatches.oatmeal Rattle.promises.specs.Swatches.summing Rattle.promises.specs.Swatches.finding Rattle.promises.specs.Swatches.helped Rattle.promises.specs.Swatches.untaken Rattle.promises.specs.Swatches.leaving Rattle.promises.specs.Swatches.starred Rattle.promises.specs.Swatches.seven Rattle.promises.specs.Swatches.seven_ok Rattle.promises.specs.Refusals.is_refusal Rattle.promises.specs.Refusals.refuses Rattle.promises.specs.Refusals.refuses_all Rattle.promises.specs.Refusals.nested Rattle.promises.specs.Refusals.compiler_refusals Rattle.promises.specs.Refusals.is_turned_away Rattle.promises.specs.Refusals.turns_away Rattle.promises.specs.Refusals.turns_away_all Rattle.promises.specs.Refusals.machine_refusals Rattle.machine.proofs.Computes.machine_computes Rattle.translation.proofs.Computes.translation_computes
promises_computes = 0
