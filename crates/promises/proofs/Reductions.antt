-- RULES OF 000: for every accepted tape, the machine after n counted steps stands where the reduction relation of document 000 stands with its counter at n:
-- with the same bytes, the same counted step due, values included, and at the end the same value. Assumes nothing.
use mathlib.Core.List.{List}
use Prim.Native.Nat.{ℕ, ◌≤◌}
use Rattle.tape.specs.Instruction.{code_of}
use Rattle.machine.specs.Run.{begin, after}
use Rattle.rules.specs.Correspondence.{FollowsRules}
use Rattle.rules.proofs.Standing.{accepted_stands}
use Rattle.promises.specs.Runs.{Runs}

pub rules_of_000 : (t arguments memory : List ℕ) (m : ℕ) → Runs t arguments memory m → (n : ℕ) → n ≤ m
    → FollowsRules t arguments memory n (after (code_of t) arguments memory n)
unfolding after begin
rules_of_000 t arguments memory m r n l = accepted_stands t m r.accepted arguments memory r.arguments_fit n l
