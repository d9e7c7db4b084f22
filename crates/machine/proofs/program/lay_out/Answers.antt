-- `machine::program::lay_out` meets its contract. The invariant: the arrays before this one are laid out, and the sum is where this one begins.
-- Assumes nothing.
use Rattle.machine.proofs.Tables.{laid_start, laid_room, laid_next, laid_end}
use native.Mathlib.Omega.{arith}
use Rattle.machine.proofs.program.lay_out.Goals as goal

pub loop-a-init : goal.loop-a-init
loop-a-init c = laid_start c.args.tape.now

pub bounds-starts-a : goal.bounds-starts-a
bounds-starts-a c = (laid_room c.requires (rw c.record-n.ensures at c.loop-a-test.true) c.loop-a.invariant).0

pub record-bytes-requires : goal.record-bytes-requires
record-bytes-requires c = (laid_room c.requires (rw c.record-n.ensures at c.loop-a-test.true) c.loop-a.invariant).1

pub overflow_add-bytes : goal.overflow_add-bytes
overflow_add-bytes c =
    let l = laid_room c.requires (rw c.record-n.ensures at c.loop-a-test.true) c.loop-a.invariant in
    rw c.record-bytes.ensures (omega arith)

pub loop-a-preserved : goal.loop-a-preserved
loop-a-preserved c = rw c.record-bytes.ensures (laid_next c.requires (rw c.record-n.ensures at c.loop-a-test.true) c.loop-a.invariant)

pub returns : goal.returns
returns c = laid_end c.requires (rw c.record-n.ensures at c.loop-a-test.false) c.loop-a.invariant
