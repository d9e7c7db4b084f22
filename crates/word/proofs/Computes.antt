-- Everything that computes in this crate's definitions, and in those below, opened by one name: `unfolding word_computes`. Assumes nothing.
use Rattle.std.proofs.Common.{ℕ}

unfoldable pub word_computes : ℕ
unfolding Rattle.word.specs.Value.truth Rattle.word.specs.Value.flip Rattle.word.specs.Value.negate Rattle.word.specs.Value.left_by Rattle.word.specs.Value.left Rattle.word.specs.Value.right_by Rattle.word.specs.Value.right Rattle.word.specs.Value.op Rattle.word.specs.Code.code Rattle.word.specs.Code.op_of Rattle.word.specs.Types.op_ty Rattle.word.specs.Types.op_fine Rattle.word.specs.Records.records_of Rattle.word.specs.Records.words_of Rattle.word.specs.Records.same Rattle.word.specs.Records.sized Rattle.word.specs.Slots.here Rattle.word.specs.Slots.upd Rattle.word.specs.Slots.parameter Rattle.word.specs.Slots.begin Rattle.word.specs.Bytes.base Rattle.word.specs.Bytes.total Rattle.word.specs.Bytes.fetch_if Rattle.word.specs.Bytes.store_if Rattle.word.specs.Bytes.fetch Rattle.word.specs.Bytes.store
word_computes = 0
