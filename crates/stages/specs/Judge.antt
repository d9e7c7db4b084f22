-- What a table is refused for before its cost, 1 to 11: the first stage that finds a fault (01, "Refusal numbers"). Assumes nothing: these are definitions.
use Rattle.std.specs.Prelude.{ℕ, List}
use Rattle.script.specs.Tree.{Program}
use Rattle.script.specs.Parse.{Parsed, parsed, refused, read_table}
use Rattle.script.specs.Stage.{fault, or_else, over_program}
use Rattle.script.specs.Scope.{scope_f}
use Rattle.script.specs.Types.{type_f}
use Rattle.script.specs.Stores.{stores}
use Rattle.script.specs.Stage.{First}

-- 8 and 9; 10; 11
unfoldable pub checked : Program → First
checked p = or_else (over_program scope_f p) (or_else (over_program type_f p) (stores p))

unfoldable pub judged_by : Parsed Program → First
judged_by (parsed p i) = checked p
judged_by (refused number place) = fault number place

unfoldable pub judged : List ℕ → First
judged t = judged_by (read_table t)
