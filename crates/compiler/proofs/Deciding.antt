-- The compiler's whole answer: a table's judgement decides, and then its cost. Assumes nothing.
use mathlib.Core.Path.{sym, ◌≡◌, refl}
use mathlib.Core.List.{List}
use Prim.Native.Nat.{ℕ}
use Rattle.script.specs.Tree.{Program}
use Rattle.script.specs.Parse.{Parsed, parsed, refused, read_table}
use Rattle.script.specs.Stage.{or_else, over_program}
use Rattle.script.specs.Scope.{scope_f}
use Rattle.script.specs.Types.{type_f}
use Rattle.script.specs.Stores.{stores}
use Rattle.stages.specs.Judge.{checked, judged_by, judged}
use Rattle.script.specs.Stage.{First}
use Rattle.translation.specs.Compile.{costs, stages, first_of, unless_fault, compile_by, compile}
use Rattle.std.specs.Prelude.{Ok, Err}
use Rattle.word.specs.Refusals.{refuse}
use Rattle.word.proofs.Refused.{refused_number, refused_place}
use Rattle.stages.proofs.TypeExprs.{or_clean}

or_assoc : (a b c : First) → or_else a (or_else b c) ≡ or_else (or_else a b) c
unfolding or_else
or_assoc (Ok u) b c = refl
or_assoc (Err r) b c = refl

-- the cost comes after the judgement
cost_last : (p : Program) → first_of stages p ≡ or_else (checked p) (costs p)
unfolding first_of stages checked
cost_last p =
    let a = over_program scope_f p in
    let b = over_program type_f p in
    let c = stores p in
    let d = costs p in
    rw (sym (or_clean d), or_assoc b c d, or_assoc a (or_else b c) d) refl

pub compile_clean : (t : List ℕ) (p : Program) (i : ℕ) → read_table t ≡ parsed p i → checked p ≡ Ok tt → (out : List ℕ) → unless_fault (costs p) p out ≡ compile t out
unfolding compile compile_by or_else
compile_clean t p i e c out = rw (e, cost_last p, c) refl

pub compile_fault : (t : List ℕ) (number place : ℕ) → judged t ≡ refuse number place → (out : List ℕ)
    → record { answer = refuse number place; out = out } ≡ compile t out
unfolding compile compile_by judged judged_by or_else unless_fault
compile_fault t number place h out = by (read_table t) refl
  where
    by : (r : Parsed Program) → read_table t ≡ r → record { answer = refuse number place; out = out } ≡ compile_by (read_table t) out
    by (parsed p i) e =
        let c : checked p ≡ refuse number place = rw e at h in
        rw (e, cost_last p, c) refl
    by (refused n k) e =
        let f : refuse n k ≡ refuse number place = rw e at h in
        let a : n ≡ number = refused_number f in
        let b : k ≡ place = refused_place f in
        rw (e, a, b) refl
