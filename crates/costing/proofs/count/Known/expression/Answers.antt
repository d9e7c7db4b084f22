-- `costing::count::Known::expression` meets its contract: a record that is found is a step of the tally. Assumes nothing.
use Rattle.std.proofs.Common.{sym, arith}
use Rattle.scoping.proofs.ScopeSteps.{seek_smaller}
use Rattle.costing.proofs.Turns.{tally_found}
use Rattle.costing.proofs.count.Known.expression.Goals as goal

pub loop-parts-smaller : goal.loop-parts-smaller
loop-parts-smaller c = let less = seek_smaller c.args.table.now c.loop-parts.here.at.at _ _ (sym c.in-Some.ensures) in grind arith

pub loop-parts-preserved : goal.loop-parts-preserved
loop-parts-preserved c =
    let step = tally_found c.args.self.now.params c.args.self.now.steps c.args.table.now c.loop-parts.here c.loop-parts.parts _ _ c.loop-parts-test.true (sym c.in-Some.ensures) in
    grind arith
