-- `scoping::scope::expressions` meets its contract: each record that is found is a step of the scan. Assumes nothing.
use Rattle.std.proofs.Common.{sym, ap, ◌∙◌, arith}
use Rattle.std.specs.Prelude.{Err}
use Rattle.scoping.proofs.ScopeSteps.{seek_smaller, seek_hidden, seek_on, seek_low, seek_high}
use Rattle.scoping.proofs.scope.expressions.Goals as goal

pub returns-then-hides : goal.returns-then-hides
returns-then-hides c =
    ap Err c.refusal.ensures
    ∙ sym (seek_hidden _ _ _ _ _ (sym c.next.ensures ∙ c.in-Some.is) (omega arith) (omega arith) (sym c.hides.ensures ∙ c.if-hides.true)) ∙ c.loop-x.invariant

pub returns-in_default-kind : goal.returns-in_default-kind
returns-in_default-kind c = sym (seek_low _ _ _ _ _ (sym c.next.ensures ∙ c.in-Some.is) (omega arith)) ∙ c.loop-x.invariant

pub returns-in_default-kind-2 : goal.returns-in_default-kind-2
returns-in_default-kind-2 c = sym (seek_high _ _ _ _ _ (sym c.next.ensures ∙ c.in-Some.is) (omega arith)) ∙ c.loop-x.invariant

pub loop-x-smaller : goal.loop-x-smaller
loop-x-smaller c = seek_smaller _ _ _ _ (sym c.next.ensures ∙ c.in-Some.is)

pub loop-x-preserved : goal.loop-x-preserved
loop-x-preserved c =
    seek_on _ _ _ _ _ (sym c.next.ensures ∙ c.in-Some.is) (omega arith) (omega arith) (sym c.hides.ensures ∙ c.if-hides.false) ∙ c.loop-x.invariant
