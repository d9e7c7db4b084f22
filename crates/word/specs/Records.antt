-- Four words to a record (01, "Words, values, arithmetic"): kind, p, q, r. Records are counted from 0.
-- Assumes nothing: these are definitions.
use Rattle.std.specs.Prelude.{ℕ, ◌+◌, ◌*◌, ◌/◌, ◌%◌, Bool, not, ◌&&◌, List, [], ◌∷◌, length, ◌==◌, nat_le, slice_index}
use Rattle.word.specs.declared.Record.{Record}

abbrev pub rec : ℕ → ℕ → ℕ → ℕ → Record
rec kind p q r = record { kind = kind; p = p; q = q; r = r }

-- how many whole records a list of words has; record i is its words 4i to 4i + 3
abbrev pub records : List ℕ → ℕ
records t = length t / 4

abbrev pub record_at : List ℕ → ℕ → Record
record_at t i = rec (slice_index t (i * 4)) (slice_index t (i * 4 + 1)) (slice_index t (i * 4 + 2)) (slice_index t (i * 4 + 3))

-- all of them, in order
unfoldable pub records_of : List ℕ → List Record
records_of [] = []
records_of (k ∷ []) = []
records_of (k ∷ p ∷ []) = []
records_of (k ∷ p ∷ q ∷ []) = []
records_of (k ∷ p ∷ q ∷ r ∷ t) = rec k p q r ∷ records_of t

-- a record's words, and those of several
unfoldable pub words_of : List Record → List ℕ
words_of [] = []
words_of (x ∷ xs) = x.kind ∷ x.p ∷ x.q ∷ x.r ∷ words_of xs

unfoldable pub same : Record → Record → Bool
same x y = x.kind == y.kind && (x.p == y.p && (x.q == y.q && x.r == y.r))

-- whether a count of words is that of one to `most` whole records (refusals 1 and 21)
unfoldable pub sized : ℕ → ℕ → Bool
sized most n = not (n == 0) && (n % 4 == 0 && nat_le (n / 4) most)
