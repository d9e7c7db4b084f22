-- `machine::course::execute` meets its contract: the lemmas of Sofar, at the places of the loop. Assumes nothing.
use Rattle.machine.proofs.Sofar.{sofar_start, sofar_ends, sofar_ready, sofar_next, sofar_ending, sofar_answer, entered_head}
use Rattle.machine.proofs.Tables.{checked}
use native.Mathlib.Omega.{arith}
use mathlib.Core.Path.{sym, ◌∙◌}
use Rattle.machine.proofs.course.execute.Goals as goal

pub record-head-requires : goal.record-head-requires
record-head-requires c = (entered_head c.args.arguments.now c.args.memory.now c.requires).there

pub copy-requires : goal.copy-requires
copy-requires c =
    let few = (entered_head c.args.arguments.now c.args.memory.now c.requires).few in
    (omega arith, omega arith)

pub overflow_add-g : goal.overflow_add-g
overflow_add-g c =
    let there = (entered_head c.args.arguments.now c.args.memory.now c.requires).there in
    let few = (checked c.args.program.now.tape.now c.requires.accepted).1.few in
    omega arith

pub loop-stacks-init : goal.loop-stacks-init
loop-stacks-init c = rw (c.record-head.ensures, c.copy.ensures) (sofar_start c.args.arguments.now c.args.memory.now c.requires c.args.limit)

pub going-requires : goal.going-requires
going-requires c = sofar_ends c.loop-stacks.invariant

pub step-g-requires : goal.step-g-requires
step-g-requires c = sofar_ready c.loop-stacks.invariant (omega arith) (sym c.going.ensures ∙ c.loop-stacks-test.true)

pub loop-stacks-smaller : goal.loop-stacks-smaller
loop-stacks-smaller c = (sofar_next c.loop-stacks.invariant (sym c.going.ensures ∙ c.loop-stacks-test.true) c.step-g.ensures).1

pub loop-stacks-preserved : goal.loop-stacks-preserved
loop-stacks-preserved c = (sofar_next c.loop-stacks.invariant (sym c.going.ensures ∙ c.loop-stacks-test.true) c.step-g.ensures).0

pub answer-requires : goal.answer-requires
answer-requires c = sofar_ending c.loop-stacks.invariant (omega arith)

pub returns : goal.returns
returns c = rw c.answer.ensures (sofar_answer c.loop-stacks.invariant (sym c.going.ensures ∙ c.loop-stacks-test.false))
