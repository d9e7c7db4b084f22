-- Laws of slots and of bytes. Assumes nothing.
use Rattle.std.proofs.Common.{◌≡◌, ℕ, zero, suc, ◌+◌, ◌%◌, ◌^◌, ◌<◌, Bool, true, false, ltb, ◌≢◌, List, [], ◌∷◌, length, get_or, set, refl, ap, ◌∙◌, mod-lt, mod-eq_of_lt, arith, lit<, length-set, eq-eqb, ne_eqb}
use mathlib.Core.Path.{fun_ext}
use native.Mathlib.Decide.{ℕ_discrete}
use lib.Seq.{set-get_or}
use Rattle.word.specs.Types.{Val, number, is_number}
use Rattle.word.specs.Slots.{here, upd}
use Rattle.word.specs.Bytes.{base, fetch_if, store_if, fetch, store}

-- ---- maps of slots
pub upd_same : {A : Type 0} (f : ℕ → A) (x : ℕ) (a : A) → upd f x a x ≡ a
unfolding upd here
upd_same f x a = ap (λ (t : Bool). here t a (f x)) (eq-eqb x x refl)

pub upd_other : {A : Type 0} (f : ℕ → A) (x : ℕ) (a : A) (y : ℕ) → y ≢ x → upd f x a y ≡ f y
unfolding upd here
upd_other f x a y h = ap (λ (t : Bool). here t a (f y)) (ne_eqb y x h)

pub upd_id : {A : Type 0} (f : ℕ → A) (x : ℕ) → upd f x (f x) ≡ f
upd_id f x = fun_ext (λ y. go y (ℕ_discrete y x))
  where
    go : (y : ℕ) → Dec (y ≡ x) → upd f x (f x) y ≡ f y
    go y (yes e) = rw e (upd_same f x (f x))
    go y (no d) = upd_other f x (f x) y d

-- ---- words and bytes
pub data Words : List ℕ → Type 0 where
  no_word : Words []
  a_word : {v : ℕ} {s : List ℕ} → v < 2 ^ 32 → Words s → Words (v ∷ s)

-- those of a lent list
pub words_of : (s : List ℕ) → ((k : ℕ) → get_or s k 0 < 2 ^ 32) → Words s
words_of [] h = no_word
words_of (v ∷ s) h = a_word (h 0) (words_of s (λ k. h (suc k)))

pub words_val : {s : List ℕ} → Words s → (x : ℕ) → Val (get_or s x 0) number
words_val no_word x = is_number (lit< tt)
words_val (a_word h r) zero = is_number h
words_val (a_word h r) (suc x) = words_val r x

pub data Bytes : List ℕ → Type 0 where
  empty : Bytes []
  byte : {b : ℕ} {m : List ℕ} → b < 256 → Bytes m → Bytes (b ∷ m)

get_d_byte : {m : List ℕ} → Bytes m → (k : ℕ) → get_or m k 0 < 256
get_d_byte empty k = lit< tt
get_d_byte (byte h r) zero = h
get_d_byte (byte h r) (suc k) = get_d_byte r k

set_bytes : {m : List ℕ} → Bytes m → (k v : ℕ) → v < 256 → Bytes (set m k v)
set_bytes empty k v h = empty
set_bytes (byte b r) zero v h = byte h r
set_bytes (byte b r) (suc k) v h = byte b (set_bytes r k v h)

fetch_if_byte : (t : Bool) {m : List ℕ} → Bytes m → (k : ℕ) → fetch_if t m k < 256
unfolding fetch_if
fetch_if_byte true h k = get_d_byte h k
fetch_if_byte false h k = lit< tt

store_if_bytes : (t : Bool) {m : List ℕ} → Bytes m → (k v : ℕ) → Bytes (store_if t m k v)
unfolding store_if
store_if_bytes true h k v = set_bytes h k (v % 256) (mod-lt v (lit< tt))
store_if_bytes false h k v = h

store_if_fetch_if : (t : Bool) {m : List ℕ} → Bytes m → (k : ℕ) → store_if t m k (fetch_if t m k) ≡ m
unfolding store_if fetch_if
store_if_fetch_if true {m} h k = ap (set m k) (mod-eq_of_lt (get_d_byte h k)) ∙ set-get_or m k 0
store_if_fetch_if false h k = refl

store_if_length : (t : Bool) (m : List ℕ) (k v : ℕ) → length (store_if t m k v) ≡ length m
unfolding store_if
store_if_length true m k v = length-set m k (v % 256)
store_if_length false m k v = refl

pub fetch_val : (lengths : List ℕ) {m : List ℕ} → Bytes m → (a i : ℕ) → Val (fetch lengths m a i) number
unfolding fetch
fetch_val lengths {m} h a i =
    let q : fetch_if (ltb i (get_or lengths a 0)) m (base lengths a + i) < 256 = fetch_if_byte (ltb i (get_or lengths a 0)) h (base lengths a + i) in
    is_number (omega arith)

pub store_bytes : (lengths : List ℕ) {m : List ℕ} → Bytes m → (a i v : ℕ) → Bytes (store lengths m a i v)
unfolding store
store_bytes lengths h a i v = store_if_bytes (ltb i (get_or lengths a 0)) h (base lengths a + i) v

pub store_length : (lengths m : List ℕ) (a i v : ℕ) → length (store lengths m a i v) ≡ length m
unfolding store
store_length lengths m a i v = store_if_length (ltb i (get_or lengths a 0)) m (base lengths a + i) v

-- a byte stored where it was read changes nothing
pub store_fetch : (lengths : List ℕ) {m : List ℕ} → Bytes m → (a i : ℕ) → store lengths m a i (fetch lengths m a i) ≡ m
unfolding store fetch
store_fetch lengths h a i = store_if_fetch_if (ltb i (get_or lengths a 0)) h (base lengths a + i)
