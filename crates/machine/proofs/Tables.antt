-- What is worked out of a tape once: where each function begins, and where each array does. Assumes nothing.
use mathlib.Core.Path.{◌≡◌, refl, sym, ap, ◌∙◌}
use mathlib.Core.Bool.{Bool, true, false, false≢true}
use mathlib.Core.List.{List, [], ◌∷◌}
use mathlib.Core.Logic.{⊎_elim}
use Prim.Native.Nat.{ℕ, zero, suc, ◌+◌, ◌*◌, ◌^◌, ◌≤◌, ◌<◌}
use native.Mathlib.Numerals.{add-one}
use native.Mathlib.Nat.{eq-or-lt_of_le, le_of_suc-le-suc}
use native.Mathlib.Omega.{arith}
use borrow.Author.Tests.{ltb-true, ltb-false}
use lib.Dec.{ltb}
use lib.ListN.{length, get_or, set as put_at, drop, replicate, length-set, get_or-eq_default}
use lib.Seq.{get_or-set_same, get_or-set_other}
use Rattle.word.specs.Records.{records, record_at}
use Rattle.word.specs.declared.Record.{Record}
use Rattle.word.specs.Bytes.{base, total}
use Rattle.tape.specs.Instruction.{Instruction, Code, cfunc, read, code_of}
use Rattle.tape.specs.Entries.{Declares, length_of, params_of, nothing, declares, entries_of}
use Rattle.tape.specs.Check.{check, Checked}
use Rattle.tape.proofs.Places.{Passed, passed}
use Rattle.tape.proofs.Cases.{by_kind, read_cfunc}
use Rattle.tape.proofs.Reading.{code_from, code_length}
use Rattle.tape.proofs.Declaring.{one_function, functions_before, functions_next, entries_all}
use Rattle.tape.proofs.Entered.{StandsAt}
use Rattle.tape.proofs.Positions.{code_there, before}
use Rattle.tape.proofs.Declared.{exposed_there, one_at_least, array_at, array_small, arrays_all, arrays_few}
use Rattle.machine.specs.Flat.{sizes, with_place, places_of, is_accepted, Stored}
use Rattle.std.specs.Prelude.{Ok, Err}

-- ---- functions
place_by_lem : (d : Declares) (at : ℕ) (places : List ℕ) (k : ℕ) → get_or (with_place d at places) (one_function d k) 0 ≡ get_or places k 0
unfolding with_place one_function
place_by_lem (length_of n) at places k = refl
place_by_lem (params_of p) at places k = refl
place_by_lem nothing at places k = refl

pub place_at : (i at : ℕ) (c : Code) {p q : ℕ} {rest : Code} → drop i c ≡ cfunc p q ∷ rest → get_or (places_of at c) (functions_before i c) 0 ≡ i + at
unfolding places_of functions_before declares with_place
place_at zero at c e = let z : at ≡ 0 + at = omega arith in ap (λ (d : Code). get_or (places_of at d) 0 0) e ∙ z
place_at (suc i) at [] e = absurd (let z : ◌≡◌ {A = ℕ} 0 1 = cc in omega arith)
place_at (suc i) at (y ∷ c) e =
    let z : i + suc at ≡ suc i + at = omega arith in
    place_by_lem (declares y) at (places_of (suc at) c) (functions_before i c) ∙ place_at i (suc at) c e ∙ z

pub place_there : (t : List ℕ) (m : ℕ) (a : Passed t m) {f place params slots : ℕ} → StandsAt t f place params slots → get_or (places_of 0 (code_of t)) f 0 ≡ place
place_there t m a {place = place} there =
    let e : place + 0 ≡ place = omega arith in
    ap (λ (g : ℕ). get_or (places_of 0 (code_of t)) g 0) (sym (before t m a there)) ∙ place_at place 0 (code_of t) (code_there t m a there) ∙ e

-- as many as there are functions
places_by : (d : Declares) (at : ℕ) (places : List ℕ) → length (with_place d at places) ≡ one_function d (length places)
unfolding with_place one_function
places_by (length_of n) at places = refl
places_by (params_of p) at places = refl
places_by nothing at places = refl

pub places_all : (at : ℕ) (c : Code) → length (places_of at c) ≡ functions_before (length c) c
unfolding places_of functions_before
places_all at [] = refl
places_all at (x ∷ c) = places_by (declares x) at (places_of (suc at) c) ∙ ap (one_function (declares x)) (places_all (suc at) c)

-- a function that begins is one of them
more_by : (d : Declares) {j k : ℕ} → j < k → one_function d j < one_function d k
unfolding one_function
more_by (length_of n) h = h
more_by (params_of p) h = omega arith
more_by nothing h = h

pub before_all : (i : ℕ) (c : Code) {p q : ℕ} {rest : Code} → drop i c ≡ cfunc p q ∷ rest → functions_before i c < functions_before (length c) c
unfolding functions_before declares one_function
before_all zero c {rest = rest} e = rw e (omega arith)
before_all (suc i) [] e = absurd (let z : ◌≡◌ {A = ℕ} 0 1 = cc in omega arith)
before_all (suc i) (y ∷ c) e = more_by (declares y) (before_all i c e)

-- ---- arrays
pub base_next : (lengths : List ℕ) (a : ℕ) → a < length lengths → base lengths (suc a) ≡ base lengths a + get_or lengths a 0
unfolding base
base_next [] a h = absurd (omega arith)
base_next (n ∷ []) zero h = omega arith
base_next (n ∷ k ∷ lengths) zero h = omega arith
base_next (n ∷ lengths) (suc a) h = omega (arith, base_next lengths a (omega arith))

pub base_grows : (lengths : List ℕ) (i j : ℕ) → i ≤ j → base lengths i ≤ base lengths j
unfolding base
base_grows [] i j h = omega arith
base_grows (n ∷ lengths) zero j h = omega arith
base_grows (n ∷ lengths) (suc i) zero h = absurd (omega arith)
base_grows (n ∷ lengths) (suc i) (suc j) h = omega (arith, base_grows lengths i j (omega arith))

pub total_is : (lengths : List ℕ) → base lengths (length lengths) ≡ total lengths
unfolding base total
total_is [] = refl
total_is (n ∷ lengths) = ap (λ (k : ℕ). n + k) (total_is lengths)

-- ---- a tape that was checked
pub accepted_by : (c : Checked) → is_accepted c ≡ true → (m : ℕ) × (c ≡ Ok m)
unfolding is_accepted
accepted_by (Ok m) h = (m, refl)
accepted_by (Err r) h = absurd (false≢true h)

pub checked : (t : List ℕ) → is_accepted (check t) ≡ true → (m : ℕ) × Passed t m
checked t h = let p = accepted_by (check t) h in (p.0, passed t p.0 p.1)

-- ---- the table of arrays, half done
pub record Laid (t starts : List ℕ) (sum a : ℕ) : Type 0 where
  pub few : a ≤ length (sizes t)
  pub sum_is : sum ≡ base (sizes t) a
  pub small : sum ≤ a * 4096
  pub room : length starts ≡ 8
  pub done : (j : ℕ) → j < a → get_or starts j 0 ≡ base (sizes t) j

pub laid_start : (t : List ℕ) → Laid t (replicate 8 0) 0 0
unfolding base
laid_start t = record { few = omega arith; sum_is = first (sizes t); small = omega arith; room = refl; done = λ j h. absurd (omega arith) }
  where
    first : (lengths : List ℕ) → 0 ≡ base lengths 0
    first [] = refl
    first (n ∷ lengths) = refl

pub some_record : (t : List ℕ) → is_accepted (check t) ≡ true → 0 < records t
some_record t ok = let c = checked t ok in one_at_least t c.0 c.1

module _ {t : List ℕ} (ok : is_accepted (check t) ≡ true) where
  -- array n's record, and room for where the array after it begins
  pub laid_room : {starts : List ℕ} {sum n : ℕ} → n < (record_at t 0).q → Laid t starts sum n
      → (n < 8) × (n + 1 < records t) × (sum + (record_at t (n + 1)).p < 2 ^ 32)
  laid_room {n = n} h l =
      let c = checked t ok in
      let q = arrays_all t c.0 c.1 in
      let k = arrays_few t c.0 c.1 in
      let p = (array_at t c.0 c.1 n h).0 in
      let z = ap (λ (j : ℕ). (record_at t j).p) (add-one n) in
      let e = array_small t c.0 c.1 n h in
      let s = l.small in
      (omega arith, omega arith, omega arith)

  pub laid_next : {starts : List ℕ} {sum n : ℕ} → n < (record_at t 0).q → Laid t starts sum n → Laid t (put_at starts n sum) (sum + (record_at t (n + 1)).p) (n + 1)
  laid_next {starts} {sum} {n} h l =
      let c = checked t ok in
      let q = arrays_all t c.0 c.1 in
      let p = array_at t c.0 c.1 n h in
      let small = array_small t c.0 c.1 n h in
      let k = arrays_few t c.0 c.1 in
      let i = l.sum_is in
      let r = l.room in
      let s = l.small in
      rw (add-one n)
      (record {
        few = omega arith;
        sum_is = omega (arith, base_next (sizes t) n (omega arith), p.1);
        small = omega arith;
        room = length-set starts n sum ∙ r;
        done = λ j u.
            ⊎_elim (λ (v : j ≡ n). rw v (get_or-set_same starts n sum 0 (omega arith) ∙ i)) (λ (v : j < n). get_or-set_other starts n j sum 0 (λ w. omega arith) ∙ l.done j v)
            (eq-or-lt_of_le (le_of_suc-le-suc u));
      })

  pub laid_end : {starts : List ℕ} {sum n : ℕ} → (record_at t 0).q ≤ n → Laid t starts sum n
      → (sum ≡ total (sizes t)) × ((j : ℕ) → j < length (sizes t) → get_or starts j 0 ≡ base (sizes t) j)
  laid_end {n = n} h l =
      let c = checked t ok in
      let q = arrays_all t c.0 c.1 in
      let f = l.few in
      let e : n ≡ length (sizes t) = omega arith in
      (l.sum_is ∙ ap (base (sizes t)) e ∙ total_is (sizes t), λ j k. l.done j (omega arith))

module _ (t : List ℕ) (m : ℕ) (a : Passed t m) where
  -- each is at most 4096 long
  base_small : (n : ℕ) → n ≤ length (sizes t) → base (sizes t) n ≤ n * 4096
  base_small zero h = base_zero (sizes t)
    where
      base_zero : (lengths : List ℕ) → base lengths 0 ≤ 0 * 4096
      base_zero [] = unfold base in omega arith
      base_zero (n ∷ lengths) = unfold base in omega arith
  base_small (suc n) h =
      let q = arrays_all t m a in
      let p = array_at t m a n (omega arith) in
      omega (arith, base_next (sizes t) n h, base_small n (omega arith), p.1, array_small t m a n (omega arith))

  -- an array is stored where the table says, in a memory of as many bytes as there are
  pub stored : {starts : List ℕ} (bytes : ℕ) → bytes ≡ total (sizes t) → ((n : ℕ) → n < length (sizes t) → get_or starts n 0 ≡ base (sizes t) n)
      → (n : ℕ) → n < length (sizes t) → Stored t starts bytes n
  stored {starts} bytes e done n h =
      let q = arrays_all t m a in
      let p = array_at t m a n (omega arith) in
      let few = arrays_few t m a in
      let b = base_next (sizes t) n h in
      let g = base_grows (sizes t) (suc n) (length (sizes t)) (omega arith) in
      let k = total_is (sizes t) in
      let w = base_small (length (sizes t)) (omega arith) in
      record {
        few = omega arith;
        recorded = omega arith;
        length_is = ap (λ (i : ℕ). (record_at t i).p) (add-one n) ∙ sym p.1;
        begins = done n h;
        fits = omega arith;
        small = omega arith;
      }

-- ---- the table of functions, half done
pub record Found (t places : List ℕ) (count at : ℕ) : Type 0 where
  pub on_tape : at ≤ records t
  pub count_is : count ≡ functions_before at (code_of t)
  pub room : length places ≡ 16
  pub done : (f : ℕ) → f < count → get_or places f 0 ≡ get_or (places_of 0 (code_of t)) f 0
  pub rest : (f : ℕ) → count ≤ f → get_or places f 0 ≡ 0

pub found_start : (t : List ℕ) → Found t (replicate 16 0) 0 0
unfolding functions_before
found_start t = record { on_tape = omega arith; count_is = refl; room = refl; done = λ f h. absurd (omega arith); rest = λ f h. zeros 16 f }
  where
    zeros : (n f : ℕ) → ◌≡◌ {A = ℕ} (get_or (replicate n 0) f 0) 0
    zeros zero f = refl
    zeros (suc n) zero = refl
    zeros (suc n) (suc f) = zeros n f

-- a record that is no CFUNC begins no function
no_function : (x : Record) (k : ℕ) → (x.kind ≡ 3 → ⊥) → one_function (declares (read x)) k ≡ k
unfolding declares one_function
no_function x k h =
    by_kind (λ i. one_function (declares i) k ≡ k) x
    (record {
      on_program = λ e. refl;
      on_array = λ e. refl;
      on_cfunc = λ e. absurd (h e);
      on_lit = λ e. refl;
      on_var = λ e. refl;
      on_get = λ e. refl;
      on_not = λ e. refl;
      on_bin = λ e. refl;
      on_call = λ e. refl;
      on_def = λ e. refl;
      on_set = λ e. refl;
      on_put = λ e. refl;
      on_for = λ e. refl;
      on_end = λ e. refl;
      on_ret = λ e. refl;
      on_other = refl;
    })

module _ {t : List ℕ} (ok : is_accepted (check t) ≡ true) {places : List ℕ} {count at : ℕ} (h : at < records t) (p : Found t places count at) where
  pub found_other : ((record_at t at).kind ≡ 3 → ⊥) → Found t places count (at + 1)
  found_other k =
      rw (add-one at)
      (record {
        on_tape = h;
        count_is = p.count_is ∙ sym (functions_next at (code_of t) (code_from t at h) ∙ no_function (record_at t at) _ k);
        room = p.room;
        done = p.done;
        rest = p.rest;
      })

  function_here : (record_at t at).kind ≡ 3 → drop at (code_of t) ≡ cfunc (record_at t at).p (record_at t at).q ∷ drop (suc at) (code_of t)
  function_here k = code_from t at h ∙ ap (λ (i : Instruction). i ∷ drop (suc at) (code_of t)) (read_cfunc (record_at t at) k)

  pub found_room : (record_at t at).kind ≡ 3 → count < 16
  found_room k =
      let c = checked t ok in
      let x = exposed_there t c.0 c.1 in
      let l = before_all at (code_of t) (function_here k) in
      let e = entries_all (code_of t) in
      omega (arith, p.count_is, x.index_is, x.few)

  pub found_one : (record_at t at).kind ≡ 3 → Found t (put_at places count at) (count + 1) (at + 1)
  unfolding declares one_function
  found_one k =
      let c = function_here k in
      let r = found_room k in
      let z : at + 0 ≡ at = omega arith in
      let here : at ≡ get_or (places_of 0 (code_of t)) count 0 = sym (ap (λ (n : ℕ). get_or (places_of 0 (code_of t)) n 0) p.count_is ∙ place_at at 0 (code_of t) c ∙ z) in
      let q = p.room in
      rw (add-one at, add-one count)
      (record {
        on_tape = h;
        count_is = ap suc p.count_is ∙ sym (functions_next at (code_of t) c);
        room = length-set places count at ∙ q;
        done = λ f u.
            ⊎_elim (λ (v : f ≡ count). rw v (get_or-set_same places count at 0 (omega arith) ∙ here)) (λ (v : f < count). get_or-set_other places count f at 0 (λ w. omega arith) ∙ p.done f v)
            (eq-or-lt_of_le (le_of_suc-le-suc u));
        rest = λ f u. get_or-set_other places count f at 0 (λ w. omega arith) ∙ p.rest f (omega arith);
      })

-- the number of a record of a tape that was checked is a word
pub tape_few : (t : List ℕ) → is_accepted (check t) ≡ true → records t ≤ 131072
tape_few t ok = (checked t ok).1.few

pub found_end : {t places : List ℕ} {count at : ℕ} → records t ≤ at → Found t places count at
    → (count ≡ length (entries_of (code_of t))) × ((f : ℕ) → get_or places f 0 ≡ get_or (places_of 0 (code_of t)) f 0)
found_end {t} {places} {count} {at} h p =
    let n = p.on_tape in
    let e : at ≡ length (code_of t) = omega (arith, code_length t) in
    let c = p.count_is ∙ ap (λ (k : ℕ). functions_before k (code_of t)) e in
    let l = places_all 0 (code_of t) in
    (c ∙ sym (entries_all (code_of t)), λ f. all f (ltb f count) refl (omega arith))
  where
    all : (f : ℕ) (b : Bool) → ltb f count ≡ b → length (places_of 0 (code_of t)) ≤ count → get_or places f 0 ≡ get_or (places_of 0 (code_of t)) f 0
    all f true q l = p.done f (ltb-true f count q)
    all f false q l = let v = ltb-false f count q in p.rest f v ∙ sym (get_or-eq_default (places_of 0 (code_of t)) 0 (omega arith))

pub ruleset listing = (found_start, found_room, tape_few)
