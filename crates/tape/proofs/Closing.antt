-- What a loop leaves behind on the tape: the scope round it, and its passes' steps. Assumes nothing.
use mathlib.Core.Path.{◌≡◌, refl}
use Prim.Native.Nat.{ℕ, ◌+◌, ◌*◌}
use Rattle.tape.specs.Scan.{Body, opens, close_by, closes, states}
use Rattle.word.specs.Slots.{Scope}

-- whatever its body DEF'd
pub loop_closes : (b : Body) (x passes : ℕ) (inner : Scope) → (closes (states (opens b x passes) inner)).scope ≡ b.scope
unfolding opens closes close_by states
loop_closes b x passes inner = refl

pub loop_counts : (b : Body) (x passes : ℕ) → (closes (opens b x passes)).steps ≡ b.steps + passes * 1
unfolding opens closes close_by
loop_counts b x passes = refl
