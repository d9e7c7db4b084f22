-- The judgement of a table is the first fault in the order of its stages, as the code has them. Assumes nothing.
use mathlib.Core.Path.{◌≡◌, refl}
use mathlib.Core.List.{List}
use Prim.Native.Nat.{ℕ}
use Rattle.word.proofs.Memory.{Words}
use Rattle.script.specs.Tree.{Program}
use Rattle.script.specs.Parse.{Parsed, parsed, refused, read_table}
use Rattle.script.specs.Stage.{or_else}
use Rattle.stages.specs.Judge.{checked, judged_by, judged}
use Rattle.reading.specs.Structure.{structured}
use Rattle.scoping.specs.Scoped.{scoped}
use Rattle.stages.specs.Typed.{typed}
use Rattle.stages.specs.Stored.{stored}
use Rattle.script.proofs.Walks.{faulty}
use Rattle.reading.proofs.Programs.{read_clean, refused_fault}
use Rattle.scoping.proofs.ScopeTogether.{scoped_is}
use Rattle.stages.proofs.TypeTogether.{typed_is}
use Rattle.stages.proofs.Storing.{stored_is}
use Rattle.std.specs.Prelude.{Ok}

pub by_stages : (t : List ℕ) → Words t → or_else (structured t) (or_else (scoped t) (or_else (typed t) (stored t))) ≡ judged t
unfolding judged judged_by checked or_else
by_stages t w = by (read_table t) refl
  where
    by : (r : Parsed Program) → read_table t ≡ r → or_else (structured t) (or_else (scoped t) (or_else (typed t) (stored t))) ≡ judged_by (read_table t)
    by (parsed p i) e = rw (read_clean t p i e, scoped_is t w p i e, typed_is t w p i e, stored_is t w p i e, e) refl
    by (refused number place) e = rw (refused_fault t number place e, e) refl

-- an accepted table was read
pub judged_clean : (t : List ℕ) → judged t ≡ Ok tt → (p : Program) × (i : ℕ) × (read_table t ≡ parsed p i) × (checked p ≡ Ok tt)
unfolding judged judged_by
judged_clean t h = by (read_table t) refl
  where
    by : (r : Parsed Program) → read_table t ≡ r → (p : Program) × (i : ℕ) × (read_table t ≡ parsed p i) × (checked p ≡ Ok tt)
    by (parsed p i) e = (p, i, e, rw e at h)
    by (refused number place) e = absurd (faulty (rw e at h))
