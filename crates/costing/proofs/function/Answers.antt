-- `costing::function` meets its contract: its own figures before its body's, then what is kept. Assumes nothing.
use Rattle.std.proofs.Common.{sym, arith}
use Rattle.costing.specs.Totals.{totals, body_at, keeping}
use Rattle.costing.proofs.Turns.{function_found}
use Rattle.costing.proofs.function.Goals as goal

pub returns : goal.returns
unfolding body_at keeping
returns c =
    let a = c.args in
    let found = function_found a.table.now a.f (totals a.from a.known.now.params a.known.now.steps a.depths.now) c.in-Some.x c.in-Some.next (sym c.in-Some.ensures) in
    grind arith
