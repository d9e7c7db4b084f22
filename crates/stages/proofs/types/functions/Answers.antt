-- `stages::types::functions` meets its contract: each function is a step of what is left. Assumes nothing.
use Rattle.std.proofs.Common.{sym, ◌∙◌, arith}
use Rattle.std.proofs.lemmas.Result.{err_from_is_err_and}
use Rattle.stages.proofs.Gathering.{typed_more}
use Rattle.stages.proofs.types.functions.Goals as goal

pub returns-in_err-past : goal.returns-in_err-past
returns-in_err-past c =
    let (y, is, same) = err_from_is_err_and c.from_residual.result c.from_residual.ensures.1 in
    let more = typed_more c.args.table.now _ c.args.count _ (record { func = c.loop-f.f; params = c.loop-f.stage.params }) _ _ c.loop-f-test.true (sym c.next.ensures ∙ c.in-Some.is) in
    grind arith

pub loop-f-preserved : goal.loop-f-preserved
loop-f-preserved c =
    let more = typed_more c.args.table.now _ c.args.count _ (record { func = c.loop-f.f; params = c.loop-f.stage.params }) _ _ c.loop-f-test.true (sym c.next.ensures ∙ c.in-Some.is) in
    grind arith
