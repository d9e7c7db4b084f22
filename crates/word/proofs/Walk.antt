-- The records of a list of words, one after another: at a record that is there, it and those after it; past the last one, none. Assumes nothing.
use Rattle.std.proofs.Common.{◌≡◌, ℕ, ◌+◌, ◌<◌, ◌≤◌, Bool, true, false, ltb, List, [], ◌∷◌, drop, sym, refl, ap, add-one, arith, drop_of_length-le, ltb-false, ltb-true}
use Rattle.std.specs.Prelude.{Some, None}
use Rattle.word.specs.Records.{records, record_at, records_of}
use Rattle.word.proofs.Records.{records_length, records_from}
use Rattle.word.specs.Reader.{found_if, read_at}
use Rattle.word.specs.declared.Record.{Record}
use Rattle.word.specs.declared.reader.Reader.{Reader}

-- the records from the i-th on
pub walk_on : (t : List ℕ) (i : ℕ) → i < records t → drop i (records_of t) ≡ record_at t i ∷ drop (i + 1) (records_of t)
walk_on t i h = rw (add-one i) (records_from t i h)

pub walk_end : (t : List ℕ) (i : ℕ) → records t ≤ i → drop i (records_of t) ≡ []
walk_end t i h = drop_of_length-le (records_of t) {i = i} (rw (records_length t) h)

-- ---- what a reader finds
found_by : (t : List ℕ) (at : ℕ) (b : Bool) (x : Record) (m : Reader) → ltb at (records t) ≡ b → found_if b t at ≡ Some (x, m)
    → (at < records t) × (x ≡ record_at t at) × (m.at ≡ at + 1)
unfolding found_if
found_by t at true x m e h =
    let found : ◌≡◌ {A = Record × Reader} (record_at t at, record { at = at + 1 }) (x, m) = cc in
    (ltb-true at (records t) e, sym (ap (λ (f : Record × Reader). f.0) found), sym (ap (λ (f : Record × Reader). f.1.at) found))
found_by t at false x m e h = let z : ◌≡◌ {A = ℕ} 0 1 = cc in absurd (omega arith)

pub read_found : (t : List ℕ) (at : ℕ) (x : Record) (m : Reader) → read_at t at ≡ Some (x, m) → (at < records t) × (x ≡ record_at t at) × (m.at ≡ at + 1)
unfolding read_at
read_found t at x m h = found_by t at (ltb at (records t)) x m refl h

end_by : (t : List ℕ) (at : ℕ) (b : Bool) → ltb at (records t) ≡ b → found_if b t at ≡ None → records t ≤ at
unfolding found_if
end_by t at true e h = let z : ◌≡◌ {A = ℕ} 0 1 = cc in absurd (omega arith)
end_by t at false e h = ltb-false at (records t) e

pub read_end : (t : List ℕ) (at : ℕ) → read_at t at ≡ None → records t ≤ at
unfolding read_at
read_end t at h = end_by t at (ltb at (records t)) refl h
