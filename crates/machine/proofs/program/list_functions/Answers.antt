-- `machine::program::list_functions` meets its contract. The invariant: the functions that have begun so far are listed. Assumes nothing.
use Rattle.machine.proofs.Tables.{found_one, found_other, found_end}
use Rattle.word.specs.Records.{records}
use native.Mathlib.Omega.{arith}
use Prim.Native.Nat.{◌<◌, ◌≤◌}
use Rattle.machine.proofs.program.list_functions.Goals as goal
use Rattle.machine.proofs.program.list_functions.Goals.{then-tape-at-eq3, else-tape-at-eq3}

pub loop-at-preserved : goal.loop-at-preserved
loop-at-preserved c =
    let h : c.loop-at.at < records c.args.tape.now = omega arith in
    elim c.if-tape-at-eq3.branch [
      | then-tape-at-eq3 w ↦ rw (w.places-is, w.functions-is) (found_one c.requires h c.loop-at.invariant w.if-tape-at-eq3.true)
      | else-tape-at-eq3 w ↦ rw (w.places-is, w.functions-is) (found_other c.requires h c.loop-at.invariant w.if-tape-at-eq3.false)
    ]

pub returns : goal.returns
returns c =
    let h : records c.args.tape.now ≤ c.loop-at.at = omega arith in
    found_end h c.loop-at.invariant
