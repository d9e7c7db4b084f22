-- `stages::types::Typing::expression`: the depth that is left falls. At the loop's head what is left of the parts is all of them. Assumes nothing.
use Rattle.std.proofs.Common.{◌≡◌, ◌-◌}
use Rattle.stages.specs.Typed.{gather, typed_at}
use Rattle.stages.proofs.types.Typing.+expression.Given as goal

abbrev pub decreases-expression : goal.decreases-expression
decreases-expression l = l.left

abbrev pub invariant-loop-part : goal.invariant-loop-part
invariant-loop-part l =
    gather (typed_at l.table l.self.params l.slots (l.left - 1)) (l.count - l.part) l.parts ≡ gather (typed_at l.table l.self.params l.slots (l.left - 1)) l.count l.initial.parts
