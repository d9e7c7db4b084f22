-- `compiler::compile` meets its contract: the judgement decides, and then the cost. Assumes nothing.
use Rattle.std.proofs.Common.{sym, ap, ◌∙◌}
use Rattle.std.specs.Prelude.{Err}
use Rattle.std.proofs.lemmas.Result.{err_from_is_err_and}
use Rattle.word.specs.declared.Refusal.{Refusal}
use Rattle.translation.specs.Compile.{Compiled}
use Rattle.stages.proofs.Verdict.{judged_clean}
use Rattle.compiler.proofs.Deciding.{compile_clean, compile_fault}
use Rattle.compiler.specs.Writing.{answered}
use Rattle.compiler.proofs.compile.Goals as goal

pub returns-in_err-judge : goal.returns-in_err-judge
returns-in_err-judge c =
    let (y, is, same) = err_from_is_err_and c.from_residual.result c.from_residual.ensures.1 in
    ap (λ (r : Compiled). answered r c.args.out.now) (is ∙ ap (λ (r : Refusal). Err r) same)
    ∙ compile_fault c.args.table.now _ _ (sym c.in_err-judge.ensures) c.args.out.now

pub returns : goal.returns
returns c =
    let t = c.args.table.now in
    let (p, i, e, clean) = judged_clean t (sym c.in_ok-judge.ensures) in
    c.write_out.ensures p i e ∙ compile_clean t p i e clean c.args.out.now
