-- `compiler::answer::write_out` meets its contract: the cost decides, and the walk writes; of a table that is read both are the program's. Assumes nothing.
use Rattle.std.proofs.Common.{sym, ap, ◌∙◌, arith}
use Rattle.std.specs.Prelude.{Err}
use Rattle.std.proofs.lemmas.Result.{err_from_is_err_and}
use Rattle.word.proofs.Memory.{words_of}
use Rattle.word.specs.declared.Refusal.{Refusal}
use Rattle.costing.specs.Totals.{Outcome}
use Rattle.compiler.specs.Writing.{walk_p, answered}
use Rattle.compiler.proofs.Tables.{answers_12, answers_13, answers_tape}
use Rattle.compiler.proofs.Costed.{written_is}
use Rattle.compiler.proofs.answer.write_out.Goals as goal

pub returns-in_err-tape : goal.returns-in_err-tape
returns-in_err-tape c =
    let a = c.args in
    let (y, is, same) = err_from_is_err_and c.from_residual.result c.from_residual.ensures.1 in
    λ p i e.
    ap (λ r. answered r a.out.now) (is ∙ ap (λ (r : Refusal). Err r) same)
    ∙ sym (answers_12 a.table.now a.out.now _ (sym (ap (λ (o : Outcome). o.cost) c.in_err-tape.ensures)))
    ∙ written_is a.table.now (words_of a.table.now (λ k. omega (arith, c.type_inv.table k))) p i e a.out.now

pub returns-then-out-tape : goal.returns-then-out-tape
returns-then-out-tape c =
    let a = c.args in
    λ p i e.
    ap (λ (r : Refusal). answered (Err r) a.out.now) c.new.ensures
    ∙ sym (answers_13 a.table.now a.out.now _ (sym (ap (λ (o : Outcome). o.cost) c.in_ok-tape.ensures)) (omega (arith, c.if-out-tape.true)))
    ∙ written_is a.table.now (words_of a.table.now (λ k. omega (arith, c.type_inv.table k))) p i e a.out.now

pub returns : goal.returns
returns c =
    let a = c.args in
    let words = c.translate.ensures ∙ ap (λ (o : Outcome). walk_p a.table.now o.depths a.out.now) c.in_ok-tape.ensures in
    λ p i e.
    ap (answered _) words
    ∙ sym (answers_tape a.table.now a.out.now _ (sym (ap (λ (o : Outcome). o.cost) c.in_ok-tape.ensures)) (omega (arith, c.if-out-tape.false)))
    ∙ written_is a.table.now (words_of a.table.now (λ k. omega (arith, c.type_inv.table k))) p i e a.out.now
