-- What the cursor finds, and the records from a place on; and how the table of a tree begins: PROGRAM, the arrays, the functions. Assumes nothing.
use Prim.Native.Nat.{ℕ, suc, ◌+◌, ◌<◌}
use native.Mathlib.Omega.{arith}
use mathlib.Core.Path.{◌≡◌, refl, sym, ap, ◌∙◌}
use mathlib.Core.List.{List, [], ◌∷◌}
use borrow.Author.Tests.{lt-ltb}
use lib.ListN.{length, drop}
use Rattle.word.specs.Records.{records, records_of}
use Rattle.word.specs.Reader.{read_at, found_if}
use Rattle.word.specs.declared.Record.{Record}
use Rattle.word.specs.declared.reader.Reader.{Reader}
use Rattle.std.specs.Prelude.{Some, None}
use Rattle.word.proofs.Records.{records_words}
use Rattle.word.proofs.Memory.{Words}
use Rattle.word.proofs.Walk.{walk_on, walk_end, read_found, read_end}
use Rattle.script.specs.Tree.{Program}
use Rattle.script.specs.Parse.{parsed, read_table}
use Rattle.script.specs.Stage.{first_func}
use Rattle.scoping.specs.Passes.{heading, heading_of}
use Rattle.script.specs.Written.{list_arrays, list_funcs, listing, table, Within}
use Rattle.script.proofs.Leading.{from, first_from}
use Rattle.script.proofs.Exactly.{written_read}

-- ---- a record that is found, with the cursor past it; and the end
pub found_on : (t : List ℕ) (at : ℕ) (x : Record) (m : Reader) → read_at t at ≡ Some (x, m) → (at < records t) × (from t at ≡ x ∷ from t (at + 1)) × (m.at ≡ at + 1)
found_on t at x m e =
    let (there, is, moved) = read_found t at x m e in
    (there, walk_on t at there ∙ ap (◌∷ from t (at + 1)) (sym is), moved)

pub found_none : (t : List ℕ) (at : ℕ) → read_at t at ≡ None → from t at ≡ []
found_none t at e = walk_end t at (read_end t at e)

-- ---- a record that stands there is found
pub finds : (t : List ℕ) (at : ℕ) {x : Record} {rest : List Record} → from t at ≡ x ∷ rest
    → (read_at t at ≡ Some (x, (record { at = at + 1 }))) × (from t (at + 1) ≡ rest)
unfolding read_at found_if
finds t at {x} {rest} e =
    let (there, is, on) = first_from t at e in
    (rw (lt-ltb at (records t) there) (ap (λ (y : Record). Some (y, (record { at = at + 1 }))) is), on)

-- ---- the table of a tree
pub lists : (t : List ℕ) (p : Program) (i : ℕ) → Words t → read_table t ≡ parsed p i → (records_of t ≡ listing p) × Within p
unfolding table
lists t p i w e =
    let (is, within, end) = written_read t p i w e in
    (ap records_of (sym is) ∙ records_words (listing p), within)

past_arrays : (lengths : List ℕ) (rest : List Record) → drop (length lengths) (list_arrays lengths rest) ≡ rest
unfolding list_arrays
past_arrays [] rest = refl
past_arrays (n ∷ lengths) rest = past_arrays lengths rest

-- PROGRAM first, and the functions after the arrays
pub begins : (t : List ℕ) (p : Program) → records_of t ≡ listing p
    → (heading t ≡ record { functions = length p.funcs; first = record { at = first_func p } }) × (from t (first_func p) ≡ list_funcs p.funcs)
unfolding listing heading heading_of first_func
begins t p is =
    let one : 1 + length p.arrays ≡ suc (length p.arrays) = omega arith in
    (rw (finds t 0 is).0 refl, rw (one, is) (past_arrays p.arrays (list_funcs p.funcs)))
