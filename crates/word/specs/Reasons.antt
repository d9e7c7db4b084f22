-- The paper's number of each reason (01, "Refusal numbers"). Assumes nothing: these are definitions.
use Rattle.std.specs.Prelude.{ℕ}
use Rattle.word.specs.declared.reason.Reason.{Reason}
use Rattle.word.specs.declared.reason.Reason.TheVariants.{TableWords, TableKind, TableEnds, TableUnused, TableRange, TableExtra, TooDeep, Scope, Fixed, Mistyped, Store, Cost, Output, TapeWords, TapeKind, TapeEnds, TapeUnused, TapeRange, TapeExtra, Loops, Operands, Slot, Steps, Arguments, Memory}

abbrev pub number_of : Reason → ℕ
number_of TableWords = 1
number_of TableKind = 2
number_of TableEnds = 3
number_of TableUnused = 4
number_of TableRange = 5
number_of TableExtra = 6
number_of TooDeep = 7
number_of Scope = 8
number_of Fixed = 9
number_of Mistyped = 10
number_of Store = 11
number_of Cost = 12
number_of Output = 13
number_of TapeWords = 21
number_of TapeKind = 22
number_of TapeEnds = 23
number_of TapeUnused = 24
number_of TapeRange = 25
number_of TapeExtra = 26
number_of Loops = 27
number_of Operands = 28
number_of Slot = 29
number_of Steps = 30
number_of Arguments = 31
number_of Memory = 32
