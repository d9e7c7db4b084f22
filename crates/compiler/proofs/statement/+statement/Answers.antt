-- `compiler::statement::statement` meets its contract: where a record was found the walk enters the statement that it begins, whose kind makes
-- the definition compute. Assumes nothing.
use Rattle.std.proofs.Common.{◌≡◌, ℕ, sym, ◌-◌, add-one, arith}
use Rattle.script.specs.Table.{read_s}
use Rattle.script.proofs.Heads.{head_seq, head_for, head_if}
use Rattle.tape.specs.Named.{named}
use Rattle.translation.specs.Translate.{layout}
use Rattle.emitting.specs.Emitting.{sheet}
use Rattle.emitting.specs.Walking.{desk, desk_of, looping, branching, head_s, walk_s}
use Rattle.emitting.proofs.Stepping.{walk_s_found}
use Rattle.compiler.proofs.statement.+statement.Goals as goal
use Rattle.compiler.proofs.statement.+statement.Goals.{In-Some}
use Rattle.script.proofs.Times.{times_over}

-- where a record was found: the walk enters the statement that it begins
enters : (t : ℕ) (c : In-Some t) → let a = c.args in
    walk_s a.source.params.now a.source.table.now (layout a.place.slots) a.left a.place.ifs (desk_of a.out.now a.from) ≡
    head_s a.source.params.now a.source.table.now (layout a.place.slots) (walk_s a.source.params.now a.source.table.now (layout a.place.slots) (a.left - 1))
    a.place.ifs (desk (sheet a.out.now a.from.emitter) c.in-Some.next.at) (read_s c.in-Some.x)
enters t c =
    let a = c.args in
    walk_s_found a.source.params.now a.source.table.now (layout a.place.slots) a.left a.place.ifs (desk_of a.out.now a.from) c.in-Some.x c.in-Some.next (omega arith) (sym c.in-Some.ensures)

pub returns-after-loop-i : goal.returns-after-loop-i
unfolding head_s
returns-after-loop-i t c =
    let a = c.args in
    let whole = rw (head_seq c.in-Some.x c.in-31.is) at (enters t (goal.at.returns-after-loop-i t c).In-Some) in
    let all = times_over (walk_s a.source.params.now a.source.table.now (layout a.place.slots) (a.left - 1) a.place.ifs) c.in-Some.x.p c.loop-i.i (desk_of c.loop-i.out c.loop-i.last) (omega arith) in
    grind arith

pub returns-in-35 : goal.returns-in-35
unfolding named head_s looping
returns-in-35 t c =
    let whole = rw (head_for c.in-Some.x c.in-35.is) at (enters t (goal.at.returns-in-35 t c).In-Some) in
    grind arith

pub returns-in-36 : goal.returns-in-36
unfolding head_s branching
returns-in-36 t c =
    let whole = rw (head_if c.in-Some.x c.in-36.is) at (enters t (goal.at.returns-in-36 t c).In-Some) in
    grind (arith, add-one)

pub returns-in_default-kind : goal.returns-in_default-kind
returns-in_default-kind t c =
    let a = c.args in
    let whole = enters t (goal.at.returns-in_default-kind t c).In-Some in
    let one = c.single.ensures (walk_s a.source.params.now a.source.table.now (layout a.place.slots) (a.left - 1)) in
    grind arith
