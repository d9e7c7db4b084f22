-- The stage of stores as the code has it: one scan over the records, for the first PUT before the last FUNC. What it says of a tree's table is
-- `stored_is`: what `stores` says of the tree. Assumes nothing: these are definitions.
use Rattle.std.specs.Prelude.{ℕ, zero, suc, ◌+◌, cond, List, [], ◌∷◌, eqb, drop}
use Rattle.word.specs.Records.{records_of}
use Rattle.word.specs.declared.Record.{Record}
use Rattle.script.specs.Stage.{clean, fault}
use Rattle.scoping.specs.Passes.{heading}
use Rattle.script.specs.Stage.{First}

-- what the scan meets
pub data Met : Type 0 where
  store function other : Met

unfoldable pub met : ℕ → Met
met kind = cond (eqb kind 34) store (cond (eqb kind 3) function other)

-- with so many functions left, the exposed one counted, at whose FUNC the scan is over
unfoldable pub store_at : Met → ℕ → ℕ → (ℕ → First) → First
store_at store left at next = fault 11 at
store_at function zero at next = clean
store_at function (suc zero) at next = clean
store_at function (suc (suc left)) at next = next (suc left)
store_at other left at next = next left

unfoldable pub storing : ℕ → ℕ → List Record → First
storing left at [] = clean
storing left at (x ∷ xs) = store_at (met x.kind) left at (λ n. storing n (at + 1) xs)

unfoldable pub stored : List ℕ → First
stored t = storing (heading t).functions (heading t).first.at (drop (heading t).first.at (records_of t))
