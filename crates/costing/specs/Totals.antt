-- The functions of a table counted one after another, with what is kept of each, and the cost: 12, or the figures. Assumes nothing: these are definitions.
use Rattle.std.specs.Prelude.{ℕ, zero, suc, ◌+◌, Bool, true, false, List, leb, replicate}
use Rattle.word.specs.Reader.{read_at}
use Rattle.word.specs.declared.Record.{Record}
use Rattle.word.specs.Reader.{Read}
use Rattle.std.specs.Prelude.{Some, None}
use Rattle.script.specs.Stage.{First}
use Rattle.scoping.specs.Passes.{heading, noted}
use Rattle.tape.specs.Steps.{most}
use Rattle.tape.specs.Held.{hold}
use Rattle.costing.specs.Counting.{count, statement}
use Rattle.costing.specs.declared.count.Count.{Count}
use Rattle.translation.specs.Compile.{Compiled, announced}
use Rattle.std.specs.Prelude.{Ok, Err}
use Rattle.word.specs.Refusals.{refuse}

-- the count, and of each function so far the parameters, the steps and the deepest IF nesting
pub record Totals : Type 0 where
  pub count : Count
  pub params : List ℕ
  pub steps : List ℕ
  pub depths : List ℕ

abbrev pub totals : Count → List ℕ → List ℕ → List ℕ → Totals
totals c params steps depths = record { count = c; params = params; steps = steps; depths = depths }

module _ (t : List ℕ) where
  unfoldable pub body_at : ℕ → Totals → Count
  body_at at z = statement z.params z.steps t 16 0 (count at (hold (z.count.records + 6)) 3 0)

  unfoldable pub keeping : ℕ → Record → Count → Totals → Totals
  keeping f x b z = totals b (noted z.params f x.p) (noted z.steps f (hold b.steps)) (noted z.depths f (hold b.deepest))

  unfoldable pub function_by : ℕ → Totals → Read → Totals
  function_by f z (Some (x, i)) = keeping f x (body_at i.at z) z
  function_by f z None = z

  unfoldable pub function_at : ℕ → Totals → Totals
  function_at f z = function_by f z (read_at t z.count.at.at)

-- what the count leaves
pub record Outcome : Type 0 where
  pub cost : Compiled
  pub depths : List ℕ

abbrev pub outcome : Compiled → List ℕ → Outcome
outcome cost depths = record { cost = cost; depths = depths }

-- 12: a function's steps are over the limit, at its FUNC
unfoldable pub or_over : Bool → ℕ → Totals → Outcome → Outcome
or_over true at z rest = rest
or_over false at z rest = outcome (refuse 12 at) z.depths

-- functions f and so many after it
unfoldable pub functions_from : List ℕ → ℕ → ℕ → Totals → Outcome
functions_from t zero f z = outcome (Ok (announced (hold z.count.records) (hold z.count.steps))) z.depths
functions_from t (suc n) f z =
    or_over (leb (function_at t f z).count.steps most) z.count.at.at (function_at t f z) (functions_from t n (f + 1) (function_at t f z))

-- ---- the whole table
unfoldable pub counted : List ℕ → List ℕ → Outcome
counted t depths =
    let first = (heading t).first.at in
    functions_from t (heading t).functions 0 (totals (count first first 0 0) (replicate 16 0) (replicate 16 0) depths)

-- what 12 says of a program, and the figures that go with it
unfoldable pub cost_of : First → ℕ → ℕ → Compiled
cost_of (Ok u) records steps = Ok (announced records steps)
cost_of (Err r) records steps = refuse 12 r.place
