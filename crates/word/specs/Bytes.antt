-- The arrays: "Arrays hold bytes and stand one after another, in order, in one lent memory." `lengths` are theirs.
-- Assumes nothing: these are definitions.
use Rattle.std.specs.Prelude.{ℕ, zero, suc, ◌+◌, ◌%◌, Bool, true, false, List, [], ◌∷◌, nat_lt, slice_index, slice_set}

-- where array a begins, and how many bytes there are in all
unfoldable pub base : List ℕ → ℕ → ℕ
base [] a = 0
base (n ∷ lengths) zero = 0
base (n ∷ lengths) (suc a) = n + base lengths a

unfoldable pub total : List ℕ → ℕ
total [] = 0
total (n ∷ lengths) = n + total lengths

-- "An index at or past the length reads 0; a store there is dropped." "A store keeps the value modulo 256."
unfoldable pub fetch_if : Bool → List ℕ → ℕ → ℕ
fetch_if true bytes k = slice_index bytes k
fetch_if false bytes k = 0

unfoldable pub store_if : Bool → List ℕ → ℕ → ℕ → List ℕ
store_if true bytes k v = slice_set bytes k (v % 256)
store_if false bytes k v = bytes

unfoldable pub fetch : List ℕ → List ℕ → ℕ → ℕ → ℕ
fetch lengths bytes a i = fetch_if (nat_lt i (slice_index lengths a)) bytes (base lengths a + i)

unfoldable pub store : List ℕ → List ℕ → ℕ → ℕ → ℕ → List ℕ
store lengths bytes a i v = store_if (nat_lt i (slice_index lengths a)) bytes (base lengths a + i) v
