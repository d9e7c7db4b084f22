-- No reason has the number 0, which stands for none. Assumes nothing.
use Rattle.std.specs.Prelude.{◌<◌}
use native.Mathlib.Omega.{arith}
use Rattle.word.specs.Reasons.{number_of}
use Rattle.word.specs.declared.reason.Reason.{Reason}
use Rattle.word.specs.declared.reason.Reason.TheVariants.{TableWords, TableKind, TableEnds, TableUnused, TableRange, TableExtra, TooDeep, Scope, Fixed, Mistyped, Store, Cost, Output, TapeWords, TapeKind, TapeEnds, TapeUnused, TapeRange, TapeExtra, Loops, Operands, Slot, Steps, Arguments, Memory}

pub number_some : (r : Reason) → 0 < number_of r
number_some TableWords = omega arith
number_some TableKind = omega arith
number_some TableEnds = omega arith
number_some TableUnused = omega arith
number_some TableRange = omega arith
number_some TableExtra = omega arith
number_some TooDeep = omega arith
number_some Scope = omega arith
number_some Fixed = omega arith
number_some Mistyped = omega arith
number_some Store = omega arith
number_some Cost = omega arith
number_some Output = omega arith
number_some TapeWords = omega arith
number_some TapeKind = omega arith
number_some TapeEnds = omega arith
number_some TapeUnused = omega arith
number_some TapeRange = omega arith
number_some TapeExtra = omega arith
number_some Loops = omega arith
number_some Operands = omega arith
number_some Slot = omega arith
number_some Steps = omega arith
number_some Arguments = omega arith
number_some Memory = omega arith
