-- `costing::count::Known::statement` meets its contract: where a record was found the count enters the statement that it begins, whose kind makes
-- the definition compute. Assumes nothing.
use Rattle.std.proofs.Common.{◌≡◌, ℕ, sym, ap, ◌∙◌, ◌-◌, add-one, arith}
use Rattle.script.specs.Table.{read_s}
use Rattle.script.proofs.Heads.{head_seq, head_for, head_if}
use Rattle.costing.specs.Counting.{moved, branching, head, statement}
use Rattle.costing.specs.declared.count.Count.{Count}
use Rattle.costing.proofs.Turns.{statement_found}
use Rattle.costing.proofs.count.Known.+statement.Goals as goal
use Rattle.costing.proofs.count.Known.+statement.Goals.{In-Some}
use Rattle.script.proofs.Times.{times_over}

-- where a record was found: the count enters the statement that it begins
enters : (t : ℕ) (c : In-Some t) → let a = c.args in
    statement a.self.now.params a.self.now.steps a.table.now a.left a.ifs a.from ≡
    head a.self.now.params a.self.now.steps a.table.now (statement a.self.now.params a.self.now.steps a.table.now (a.left - 1)) a.ifs
    (moved c.in-Some.next.at a.from) (read_s c.in-Some.x)
enters t c =
    let a = c.args in
    statement_found a.self.now.params a.self.now.steps a.table.now a.left a.ifs a.from c.in-Some.x c.in-Some.next (omega arith) (sym c.in-Some.ensures)

pub returns-after-loop-i : goal.returns-after-loop-i
unfolding head
returns-after-loop-i t c =
    let whole = rw (head_seq c.in-Some.x c.in-31.is) at (enters t (goal.at.returns-after-loop-i t c).In-Some) in
    let a = c.args in
    let all = times_over (statement a.self.now.params a.self.now.steps a.table.now (a.left - 1) a.ifs) c.in-Some.x.p c.loop-i.i c.loop-i.last (omega arith) in
    grind arith

pub returns-in-35 : goal.returns-in-35
unfolding head
returns-in-35 t c =
    let whole = rw (head_for c.in-Some.x c.in-35.is) at (enters t (goal.at.returns-in-35 t c).In-Some) in
    grind arith

pub returns-in-36 : goal.returns-in-36
unfolding head branching
returns-in-36 t c =
    let whole = rw (head_if c.in-Some.x c.in-36.is) at (enters t (goal.at.returns-in-36 t c).In-Some) in
    grind (arith, add-one)

pub returns-in_default-kind : goal.returns-in_default-kind
returns-in_default-kind t c =
    let a = c.args in
    c.single.ensures (statement a.self.now.params a.self.now.steps a.table.now (a.left - 1))
    ∙ ap (λ (z : Count). head a.self.now.params a.self.now.steps a.table.now (statement a.self.now.params a.self.now.steps a.table.now (a.left - 1)) a.ifs z (read_s c.in-Some.x)) c.moved-here.ensures
    ∙ sym (enters t (goal.at.returns-in_default-kind t c).In-Some)
