-- Words as records: how many there are, each one by its number, and that words and records are got back from each other. Assumes nothing.
use Rattle.std.proofs.Common.{◌≡◌, ℕ, zero, suc, ◌+◌, ◌*◌, ◌/◌, ◌%◌, ◌<◌, ◌≤◌, true, not, eqb, leb, ◌↔◌, List, [], ◌∷◌, length, get_or, drop, sym, refl, ap, ◌∙◌, arith, drop-cons, eq-eqb, ne_eqb, eqb-true, le-leb, leb-true}
use mathlib.Core.Bool.{and-eq-true_iff}
use borrow.Author.Tests.{eqb-false, not-true}
use Rattle.word.specs.Records.{rec, records, record_at, records_of, words_of, same, sized}
use Rattle.word.specs.declared.Record.{Record}

pub records_length : (t : List ℕ) → length (records_of t) ≡ records t
unfolding records_of
records_length [] = refl
records_length (k ∷ []) = refl
records_length (k ∷ p ∷ []) = refl
records_length (k ∷ p ∷ q ∷ []) = refl
records_length (k ∷ p ∷ q ∷ r ∷ t) = omega (arith, records_length t)

-- past the first record
record_on : (k p q r : ℕ) (t : List ℕ) (i : ℕ) → record_at (k ∷ p ∷ q ∷ r ∷ t) (suc i) ≡ record_at t i
record_on k p q r t i =
    let w = k ∷ p ∷ q ∷ r ∷ t in
    let e₀ : suc i * 4 ≡ suc (suc (suc (suc (i * 4)))) = omega arith in
    let e₁ : suc i * 4 + 1 ≡ suc (suc (suc (suc (i * 4 + 1)))) = omega arith in
    let e₂ : suc i * 4 + 2 ≡ suc (suc (suc (suc (i * 4 + 2)))) = omega arith in
    let e₃ : suc i * 4 + 3 ≡ suc (suc (suc (suc (i * 4 + 3)))) = omega arith in
    λ j. rec (get_or w (e₀ j) 0) (get_or w (e₁ j) 0) (get_or w (e₂ j) 0) (get_or w (e₃ j) 0)

-- the records from i on begin with record i
pub records_from : (t : List ℕ) (i : ℕ) → i < records t → drop i (records_of t) ≡ record_at t i ∷ drop (suc i) (records_of t)
unfolding records_of
records_from [] i h = absurd (omega arith)
records_from (k ∷ []) i h = absurd (omega arith)
records_from (k ∷ p ∷ []) i h = absurd (omega arith)
records_from (k ∷ p ∷ q ∷ []) i h = absurd (omega arith)
records_from (k ∷ p ∷ q ∷ r ∷ t) zero h = refl
records_from (k ∷ p ∷ q ∷ r ∷ t) (suc i) h =
    records_from t i (omega arith) ∙ ap (λ (x : Record). x ∷ drop (suc i) (records_of t)) (sym (record_on k p q r t i))

pub record_at_lem : (t : List ℕ) (i : ℕ) (d : Record) → i < records t → get_or (records_of t) i d ≡ record_at t i
record_at_lem t i d h =
    let e = sym (drop-cons (records_of t) i d (omega (arith, records_length t))) ∙ records_from t i h in
    cc

-- ---- words and records, from each other
pub words_records : (t : List ℕ) → length t ≡ records t + records t + records t + records t → words_of (records_of t) ≡ t
unfolding words_of records_of
words_records [] e = refl
words_records (k ∷ []) e = absurd (omega arith)
words_records (k ∷ p ∷ []) e = absurd (omega arith)
words_records (k ∷ p ∷ q ∷ []) e = absurd (omega arith)
words_records (k ∷ p ∷ q ∷ r ∷ t) e = ap (λ (u : List ℕ). k ∷ p ∷ q ∷ r ∷ u) (words_records t (omega arith))

pub records_words : (xs : List Record) → records_of (words_of xs) ≡ xs
unfolding words_of records_of
records_words [] = refl
records_words (x ∷ xs) = ap (x ∷◌) (records_words xs)

pub words_length : (xs : List Record) → length (words_of xs) ≡ length xs + length xs + length xs + length xs
unfolding words_of
words_length [] = refl
words_length (x ∷ xs) = omega (arith, words_length xs)

-- whole records, one at least
pub sized_iff : (most n : ℕ) → (sized most n ≡ true) ↔ ((1 ≤ n) × (n % 4 ≡ 0) × (n / 4 ≤ most))
unfolding sized
sized_iff most n = (
  λ e.
      let (a, b) = (and-eq-true_iff (not (eqb n 0)) _).0 e in
      let (c, d) = (and-eq-true_iff (eqb (n % 4) 0) (leb (n / 4) most)).0 b in
      let some = eqb-false n 0 (not-true (eqb n 0) a) in
      (omega arith, eqb-true (n % 4) 0 c, leb-true (n / 4) most d),
  λ h.
      let some : not (eqb n 0) ≡ true = ap not (ne_eqb n 0 (λ e. omega (arith, h.0))) in
      (and-eq-true_iff _ _).1 (some, (and-eq-true_iff _ _).1 (eq-eqb (n % 4) 0 h.1, le-leb (n / 4) most h.2)),
)

-- ---- records that are the same
pub same_true : (x y : Record) → same x y ≡ true → x ≡ y
unfolding same
same_true x y e =
    let a = (and-eq-true_iff (eqb x.kind y.kind) _).0 e in
    let b = (and-eq-true_iff (eqb x.p y.p) _).0 a.1 in
    let c = (and-eq-true_iff (eqb x.q y.q) _).0 b.1 in
    let k = eqb-true x.kind y.kind a.0 in
    let p = eqb-true x.p y.p b.0 in
    let q = eqb-true x.q y.q c.0 in
    let r = eqb-true x.r y.r c.1 in
    λ i. rec (k i) (p i) (q i) (r i)

pub same_self : (x : Record) → same x x ≡ true
unfolding same
same_self x = rw (eq-eqb x.kind x.kind refl, eq-eqb x.p x.p refl, eq-eqb x.q x.q refl) (eq-eqb x.r x.r refl)
