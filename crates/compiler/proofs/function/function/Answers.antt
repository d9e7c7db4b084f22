-- `compiler::function::function` meets its contract: its own records round its body's, then what is kept. Assumes nothing.
use Rattle.std.proofs.Common.{sym, arith}
use Rattle.scoping.specs.Passes.{noted}
use Rattle.tape.specs.Named.{named}
use Rattle.emitting.specs.Walking.{desk_of}
use Rattle.compiler.specs.Writing.{rolls, body_of}
use Rattle.compiler.proofs.Tables.{walk_f_found}
use Rattle.compiler.proofs.function.function.Goals as goal

pub returns : goal.returns
unfolding named noted body_of
returns c =
    let a = c.args in
    let found = walk_f_found a.table.now a.depths.now a.f (rolls (desk_of a.out.now a.from) a.params.now) c.in-Some.x c.in-Some.reader (sym c.in-Some.ensures) in
    grind arith
