-- Which array and which function a record declares: as many as were declared before it. Assumes nothing.
use mathlib.Core.Path.{◌≡◌, refl, ap, ◌∙◌}
use mathlib.Core.List.{List, [], ◌∷◌}
use Prim.Native.Nat.{ℕ, zero, suc}
use native.Mathlib.Omega.{arith}
use lib.ListN.{length, get_or, drop}
use Rattle.tape.specs.Instruction.{Instruction, Code, array, cfunc}
use Rattle.tape.specs.Entries.{Entry, Declares, length_of, params_of, nothing, declares, with_length, lengths_of, with_entry, entries_of, entry_at}

unfoldable pub one_array : Declares → ℕ → ℕ
one_array (length_of n) k = suc k
one_array (params_of p) k = k
one_array nothing k = k

unfoldable pub one_function : Declares → ℕ → ℕ
one_function (length_of n) k = k
one_function (params_of p) k = suc k
one_function nothing k = k

-- how many of the first i instructions declare an array, and a function
unfoldable pub arrays_before : ℕ → Code → ℕ
arrays_before zero c = 0
arrays_before (suc i) [] = 0
arrays_before (suc i) (x ∷ c) = one_array (declares x) (arrays_before i c)

unfoldable pub functions_before : ℕ → Code → ℕ
functions_before zero c = 0
functions_before (suc i) [] = 0
functions_before (suc i) (x ∷ c) = one_function (declares x) (functions_before i c)

-- ---- one record further
array_on : (d e : Declares) (k : ℕ) → one_array d (one_array e k) ≡ one_array e (one_array d k)
unfolding one_array
array_on (length_of n) (length_of m) k = refl
array_on (length_of n) (params_of p) k = refl
array_on (length_of n) nothing k = refl
array_on (params_of p) (length_of m) k = refl
array_on (params_of p) (params_of q) k = refl
array_on (params_of p) nothing k = refl
array_on nothing (length_of m) k = refl
array_on nothing (params_of q) k = refl
array_on nothing nothing k = refl

function_on : (d e : Declares) (k : ℕ) → one_function d (one_function e k) ≡ one_function e (one_function d k)
unfolding one_function
function_on (length_of n) (length_of m) k = refl
function_on (length_of n) (params_of p) k = refl
function_on (length_of n) nothing k = refl
function_on (params_of p) (length_of m) k = refl
function_on (params_of p) (params_of q) k = refl
function_on (params_of p) nothing k = refl
function_on nothing (length_of m) k = refl
function_on nothing (params_of q) k = refl
function_on nothing nothing k = refl

pub arrays_next : (i : ℕ) (c : Code) {x : Instruction} {rest : Code} → drop i c ≡ x ∷ rest → arrays_before (suc i) c ≡ one_array (declares x) (arrays_before i c)
unfolding arrays_before
arrays_next zero c e = ap (arrays_before 1) e
arrays_next (suc i) [] e = absurd (let z : ◌≡◌ {A = ℕ} 0 1 = cc in omega arith)
arrays_next (suc i) (y ∷ c) {x} e = ap (one_array (declares y)) (arrays_next i c e) ∙ array_on (declares y) (declares x) (arrays_before i c)

pub functions_next : (i : ℕ) (c : Code) {x : Instruction} {rest : Code} → drop i c ≡ x ∷ rest
    → functions_before (suc i) c ≡ one_function (declares x) (functions_before i c)
unfolding functions_before
functions_next zero c e = ap (functions_before 1) e
functions_next (suc i) [] e = absurd (let z : ◌≡◌ {A = ℕ} 0 1 = cc in omega arith)
functions_next (suc i) (y ∷ c) {x} e =
    ap (one_function (declares y)) (functions_next i c e) ∙ function_on (declares y) (declares x) (functions_before i c)

-- ---- what stands there
length_by : (d : Declares) (lengths : List ℕ) (k : ℕ) → get_or (with_length d lengths) (one_array d k) 0 ≡ get_or lengths k 0
unfolding with_length one_array
length_by (length_of n) lengths k = refl
length_by (params_of p) lengths k = refl
length_by nothing lengths k = refl

pub length_at : (i : ℕ) (c : Code) {n : ℕ} {rest : Code} → drop i c ≡ array n ∷ rest → get_or (lengths_of c) (arrays_before i c) 0 ≡ n
unfolding lengths_of arrays_before declares with_length
length_at zero c e = ap (λ (d : Code). get_or (lengths_of d) 0 0) e
length_at (suc i) [] e = absurd (let z : ◌≡◌ {A = ℕ} 0 1 = cc in omega arith)
length_at (suc i) (y ∷ c) e = length_by (declares y) (lengths_of c) (arrays_before i c) ∙ length_at i c e

abbrev pub nowhere : Entry
nowhere = record { params = 0; code = [] }

entry_by : (d : Declares) (c : Code) (entries : List Entry) (k : ℕ) → get_or (with_entry d c entries) (one_function d k) nowhere ≡ get_or entries k nowhere
unfolding with_entry one_function
entry_by (length_of n) c entries k = refl
entry_by (params_of p) c entries k = refl
entry_by nothing c entries k = refl

pub entry_at_lem : (i : ℕ) (c : Code) {p q : ℕ} {rest : Code} → drop i c ≡ cfunc p q ∷ rest
    → entry_at c (functions_before i c) ≡ record { params = p; code = rest }
unfolding entries_of functions_before declares with_entry
entry_at_lem zero c e = ap (λ (d : Code). get_or (entries_of d) 0 nowhere) e
entry_at_lem (suc i) [] e = absurd (let z : ◌≡◌ {A = ℕ} 0 1 = cc in omega arith)
entry_at_lem (suc i) (y ∷ c) e = entry_by (declares y) c (entries_of c) (functions_before i c) ∙ entry_at_lem i c e

-- ---- all of them
lengths_by : (d : Declares) (lengths : List ℕ) → length (with_length d lengths) ≡ one_array d (length lengths)
unfolding with_length one_array
lengths_by (length_of n) lengths = refl
lengths_by (params_of p) lengths = refl
lengths_by nothing lengths = refl

pub lengths_all : (c : Code) → length (lengths_of c) ≡ arrays_before (length c) c
unfolding lengths_of arrays_before
lengths_all [] = refl
lengths_all (x ∷ c) = lengths_by (declares x) (lengths_of c) ∙ ap (one_array (declares x)) (lengths_all c)

entries_by : (d : Declares) (c : Code) (entries : List Entry) → length (with_entry d c entries) ≡ one_function d (length entries)
unfolding with_entry one_function
entries_by (length_of n) c entries = refl
entries_by (params_of p) c entries = refl
entries_by nothing c entries = refl

pub entries_all : (c : Code) → length (entries_of c) ≡ functions_before (length c) c
unfolding entries_of functions_before
entries_all [] = refl
entries_all (x ∷ c) = entries_by (declares x) c (entries_of c) ∙ ap (one_function (declares x)) (entries_all c)
