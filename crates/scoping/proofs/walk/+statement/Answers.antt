-- `scoping::walk::statement` meets its contract: the record that is found is the statement's, and a fault of a part is the whole's. Assumes nothing.
use Rattle.std.proofs.Common.{sym, ◌∙◌, ◌-◌, arith}
use Rattle.scoping.proofs.Walking.{turns_more, turns_all, walk_parts}
use Rattle.scoping.specs.Passes.{turn, walk, answered}
use Rattle.std.proofs.lemmas.Result.{err_from_is_err_and}
use Rattle.scoping.proofs.walk.+statement.Goals as goal

pub returns-in_err-at : goal.returns-in_err-at
returns-in_err-at g t c =
    let (y, is, same) = err_from_is_err_and c.from_residual.result c.from_residual.ensures.1 in
    let whole = walk_parts (g.S.Stage.enters c.args.stage.now c.args.table.now) g.S.Stage.closes c.args.table.now _ c.args.state c.args.left _ _ (omega arith) (sym c.next.ensures ∙ c.in-Some.is) in
    grind arith

pub returns-in_err-past : goal.returns-in_err-past
returns-in_err-past g t c =
    let (y, is, same) = err_from_is_err_and c.from_residual-in_err-past.result c.from_residual-in_err-past.ensures.1 in
    let whole = walk_parts (g.S.Stage.enters c.args.stage.now c.args.table.now) g.S.Stage.closes c.args.table.now _ c.args.state c.args.left _ _ (omega arith) (sym c.next.ensures ∙ c.in-Some.is) in
    let more = turns_more (λ i b. answered (walk (turn (g.S.Stage.enters c.args.stage.now c.args.table.now) g.S.Stage.closes) c.args.table.now (c.args.left - 1) i b)) (g.S.Stage.closes c.in-Some.x.kind c.args.state) c.statements_in-parts.result c.loop-part.part (c.loop-part.at, c.loop-part.inside) c.loop-part-test.true in
    grind arith

pub returns : goal.returns
returns g t c =
    let whole = walk_parts (g.S.Stage.enters c.args.stage.now c.args.table.now) g.S.Stage.closes c.args.table.now _ c.args.state c.args.left _ _ (omega arith) (sym c.next.ensures ∙ c.in-Some.is) in
    let all = turns_all (λ i b. answered (walk (turn (g.S.Stage.enters c.args.stage.now c.args.table.now) g.S.Stage.closes) c.args.table.now (c.args.left - 1) i b)) (g.S.Stage.closes c.in-Some.x.kind c.args.state) c.statements_in-parts.result c.loop-part.part (c.loop-part.at, c.loop-part.inside) c.loop-part-test.false in
    grind arith
