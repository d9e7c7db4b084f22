-- `reading::structure::functions`: what is left of the functions at the loop's head is the whole walk, with the parameters of those before. Assumes nothing.
use Rattle.std.proofs.Common.{◌≡◌, ◌-◌}
use Rattle.script.specs.Parse.{parse_funcs, nowhere}
use Rattle.reading.specs.Structure.{walk_of}
use Rattle.reading.proofs.structure.functions.Given as goal

abbrev pub invariant-loop-func : goal.invariant-loop-func
invariant-loop-func l = record {
  before : l.env.func ≡ l.func;
  left : walk_of (parse_funcs (l.count - l.func) l.env l.table l.here.at) ≡ walk_of (parse_funcs l.count (nowhere l.arrays) l.table l.initial.here.at);
}
