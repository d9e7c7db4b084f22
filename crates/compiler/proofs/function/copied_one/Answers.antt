-- `compiler::function::copied_one` meets its contract: the record that is found is placed. Assumes nothing.
use Rattle.std.proofs.Common.{sym, arith}
use Rattle.emitting.specs.Walking.{desk_of}
use Rattle.compiler.proofs.Tables.{copy_found}
use Rattle.compiler.proofs.function.copied_one.Goals as goal

pub returns : goal.returns
returns c =
    let found = copy_found c.args.table.now (desk_of c.args.out.now c.args.from) c.in-Some.x c.in-Some.reader (sym c.in-Some.ensures) in
    grind arith
