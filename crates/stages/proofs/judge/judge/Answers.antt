-- `stages::judge::judge` meets its contract: the first stage with a fault answers. Assumes nothing.
use Rattle.std.proofs.Common.{arith}
use Rattle.std.proofs.lemmas.Result.{err_from_is_err_and}
use Rattle.script.specs.Stage.{or_else}
use Rattle.word.proofs.Memory.{words_of}
use Rattle.stages.proofs.Verdict.{by_stages}
use Rattle.stages.proofs.judge.judge.Goals as goal

pub returns-in_err-structure : goal.returns-in_err-structure
unfolding or_else
returns-in_err-structure c =
    let whole = by_stages c.args.table.now (words_of c.args.table.now (λ k. omega (arith, c.type_inv.table k))) in
    let (y, is, same) = err_from_is_err_and c.from_residual.result c.from_residual.ensures.1 in
    grind arith

pub returns-in_err-scope : goal.returns-in_err-scope
unfolding or_else
returns-in_err-scope c =
    let whole = by_stages c.args.table.now (words_of c.args.table.now (λ k. omega (arith, c.type_inv.table k))) in
    let (y, is, same) = err_from_is_err_and c.from_residual-in_err-scope.result c.from_residual-in_err-scope.ensures.1 in
    grind arith

pub returns-in_err-types : goal.returns-in_err-types
unfolding or_else
returns-in_err-types c =
    let whole = by_stages c.args.table.now (words_of c.args.table.now (λ k. omega (arith, c.type_inv.table k))) in
    let (y, is, same) = err_from_is_err_and c.from_residual-in_err-types.result c.from_residual-in_err-types.ensures.1 in
    grind arith

pub returns : goal.returns
unfolding or_else
returns c =
    let whole = by_stages c.args.table.now (words_of c.args.table.now (λ k. omega (arith, c.type_inv.table k))) in
    grind arith
