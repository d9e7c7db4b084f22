-- `stages::types::Typing::gather`: at the loop's head what is left of the parts is all of them. Assumes nothing.
use Rattle.std.proofs.Common.{◌≡◌, ◌-◌}
use Rattle.stages.specs.Typed.{gather, typed_at}
use Rattle.stages.proofs.types.Typing.gather.Given as goal

abbrev pub invariant-loop-part : goal.invariant-loop-part
invariant-loop-part l =
    gather (typed_at l.table l.self.params l.slots 16) (l.count - l.part) l.parts ≡ gather (typed_at l.table l.self.params l.slots 16) l.count l.initial.parts
