-- `scoping::walk::statement`: the depth that is left falls. At the loop's head what is left of the turns is all of them. Assumes nothing.
use Rattle.std.proofs.Common.{◌≡◌, ◌-◌}
use Rattle.scoping.specs.Passes.{turn, walk, answered}
use Rattle.scoping.proofs.Walking.{turns}
use Rattle.scoping.proofs.walk.+statement.Given as goal

abbrev pub decreases-statement : goal.decreases-statement
decreases-statement g l = l.left

abbrev pub invariant-loop-part : goal.invariant-loop-part
invariant-loop-part g l =
    let T = turn (g.S.Stage.enters l.stage l.table) g.S.Stage.closes in
    turns (λ i b. answered (walk T l.table (l.left - 1) i b)) (g.S.Stage.closes l.x.kind l.state) (l.parts - l.part) (l.at, l.inside)
    ≡ turns (λ i b. answered (walk T l.table (l.left - 1) i b)) (g.S.Stage.closes l.x.kind l.state) l.parts (l.initial.at, l.initial.inside)
