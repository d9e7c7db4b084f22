-- `emitting::expression::expression` meets its contract: behind the last part comes the record's own. Assumes nothing.
use Rattle.std.proofs.Common.{sym, ◌-◌, arith}
use Rattle.script.proofs.Times.{times_over}
use Rattle.emitting.specs.Walking.{desk_of, walk_e}
use Rattle.emitting.proofs.Stepping.{walk_e_found}
use Rattle.emitting.proofs.expression.+expression.Goals as goal

pub returns : goal.returns
returns t c =
    let a = c.args in
    let over = times_over (walk_e a.source.params.now a.source.table.now (a.left - 1)) c.parts_in-parts.result c.loop-i.i (desk_of c.loop-i.out c.loop-i.here) (omega arith) in
    let found = walk_e_found a.source.params.now a.source.table.now a.left (desk_of a.out.now a.from) c.in-Some.x c.in-Some.next (omega arith) (sym c.in-Some.ensures) in
    grind arith
