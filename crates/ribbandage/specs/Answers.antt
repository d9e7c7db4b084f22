-- The answers as structs of numbers, for callers outside Rattle. Assumes nothing: these are definitions.
use Rattle.tape.specs.Check.{Checked}
use Rattle.machine.specs.declared.Ran.{Ran}
use Rattle.machine.specs.declared.Ran.TheVariants.{Done, Stopped}
use Rattle.translation.specs.Compile.{Compiled}
use Rattle.ribbandage.specs.declared.RibbandCompiled.{RibbandCompiled}
use Rattle.ribbandage.specs.declared.RibbandChecked.{RibbandChecked}
use Rattle.ribbandage.specs.declared.RibbandRan.{RibbandRan}
use Rattle.std.specs.Prelude.{Ok, Err}
use Rattle.word.specs.Refusals.{OrRefused}

unfoldable pub compiled : Compiled → RibbandCompiled
compiled (Ok w) = record { number = 0; steps = w.steps; records = w.records; place = 0 }
compiled (Err r) = record { number = r.number; steps = 0; records = 0; place = r.place }

unfoldable pub checked : Checked → RibbandChecked
checked (Ok steps) = record { number = 0; steps = steps; place = 0 }
checked (Err r) = record { number = r.number; steps = 0; place = r.place }

unfoldable pub ran : OrRefused Ran → RibbandRan
ran (Ok (Done value steps)) = record { case = 0; number = 0; value = value; steps = steps; place = 0 }
ran (Ok (Stopped steps record')) = record { case = 1; number = 0; value = 0; steps = steps; place = record' }
ran (Err r) = record { case = 2; number = r.number; value = 0; steps = 0; place = r.place }
