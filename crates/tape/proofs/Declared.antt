-- What an accepted tape declares: its exposed function, and its arrays. Assumes nothing.
use mathlib.Core.Path.{◌≡◌, refl, sym, ap, ◌∙◌}
use mathlib.Core.Bool.{true, ◌&&◌, false≢true}
use mathlib.Core.List.{List, ◌∷◌}
use mathlib.Core.Logic.{inr, ⊎_elim}
use Prim.Native.Nat.{ℕ, zero, suc, ◌-◌, ◌≤◌, ◌<◌}
use native.Mathlib.Nat.{eq-or-lt_of_le}
use native.Mathlib.Omega.{arith}
use borrow.Author.Tests.{eqb-true, leb-true, lt-ltb, ne_eqb}
use lib.Dec.{leb}
use lib.ListN.{length, get_or, drop}
use Rattle.word.specs.Records.{records, record_at}
use Rattle.tape.specs.Instruction.{Instruction, program, array, read, code_of}
use Rattle.tape.specs.Scan.{Due, a_program, an_array, a_function, a_body, nothing, Scan, known_at, start, headed, arrayed, next}
use Rattle.tape.specs.Faults.{due, more, asks}
use Rattle.tape.specs.Entries.{lengths_of, entries_of, entry_at, exposed}
use Rattle.tape.specs.Check.{at_end}
use Rattle.tape.proofs.Cases.{read_array, read_program}
use Rattle.tape.proofs.Reading.{code_from, code_length}
use Rattle.tape.proofs.Places.{scan_at, Passed}
use Rattle.tape.proofs.Declaring.{arrays_before, functions_before, length_at, lengths_all, entries_all}
use Rattle.std.proofs.lemmas.Bool.{and_parts}
use Rattle.tape.proofs.Steady.{Fine, fine_at}
use Rattle.tape.proofs.Entered.{began, StandsAt}
use Rattle.tape.proofs.Positions.{placed_at, entry_there}
use Rattle.std.specs.Prelude.{Ok}

over_by : (d : Due) (s : Scan) (n m : ℕ) → at_end (more d) s n ≡ Ok m → d ≡ nothing
unfolding more at_end
over_by a_program s n m e = let z : ◌≡◌ {A = ℕ} 0 1 = cc in absurd (omega arith)
over_by an_array s n m e = let z : ◌≡◌ {A = ℕ} 0 1 = cc in absurd (omega arith)
over_by a_function s n m e = let z : ◌≡◌ {A = ℕ} 0 1 = cc in absurd (omega arith)
over_by a_body s n m e = let z : ◌≡◌ {A = ℕ} 0 1 = cc in absurd (omega arith)
over_by nothing s n m e = refl

module _ (t : List ℕ) (m : ℕ) (a : Passed t m) where
  -- nothing is due at the end
  pub over_at_end : (scan_at t (records t)).due ≡ nothing
  over_at_end = over_by (scan_at t (records t)).due (scan_at t (records t)) (records t) m a.ends

  -- where more is due there is a record
  pub goes_on : (i : ℕ) → i ≤ records t → more (scan_at t i).due ≡ true → i < records t
  unfolding more
  goes_on i h e =
      ⊎_elim (λ q. absurd (false≢true (ap more (sym over_at_end) ∙ ap (λ (k : ℕ). more (scan_at t k).due) (sym q) ∙ e))) (λ l. l) (eq-or-lt_of_le h)

  last : Fine (scan_at t (records t))
  last = fine_at t m a (records t) (omega arith)

  -- ---- the functions
  pub functions_all : length (entries_of (code_of t)) ≡ length (scan_at t (records t)).known
  unfolding began
  functions_all =
      entries_all (code_of t) ∙ ap (λ (n : ℕ). functions_before n (code_of t)) (code_length t) ∙ (placed_at t m a (records t) (omega arith)).begun
      ∙ ap (λ (d : Due). began d (length (scan_at t (records t)).known)) over_at_end

  -- the exposed function: the last one
  pub record Exposed : Type 0 where
    pub index : ℕ
    pub place : ℕ
    pub params : ℕ
    pub slots : ℕ
    pub index_is : suc index ≡ length (entries_of (code_of t))
    pub few : index < 16
    pub there : StandsAt t index place params slots
    pub entry : exposed (code_of t) ≡ record { params = params; code = drop (suc place) (code_of t) }

  pub exposed_there : Exposed
  exposed_there =
      let s = scan_at t (records t) in
      let o = last.over over_at_end in
      let many = last.many in
      let k = length s.known - 1 in
      let l : k < length s.known = omega arith in
      let p = (placed_at t m a (records t) (omega arith)).known k l in
      let is : length (entries_of (code_of t)) - 1 ≡ k = ap (λ (n : ℕ). n - 1) functions_all in
      record {
        index = k;
        place = (known_at s k).place;
        params = (known_at s k).params;
        slots = p.0;
        index_is = omega (arith, functions_all);
        few = omega arith;
        there = p.1;
        entry = ap (entry_at (code_of t)) is ∙ entry_there t m a p.1;
      }

  -- ---- the arrays
  some_record : 0 < records t
  some_record = let l = exposed_there.there.there in omega arith

  first_is : read (record_at t 0) ≡ program (record_at t 0).p (record_at t 0).q
  unfolding scan_at start due
  first_is = let c = a.faultless 0 some_record in read_program (record_at t 0) (eqb-true (record_at t 0).kind 1 c.kind)

  first_range : (record_at t 0).q ≤ 8
  unfolding asks
  first_range =
      let c = a.faultless 0 some_record in
      let r = rw first_is at c.range in
      leb-true (record_at t 0).q 8 (and_parts (leb 1 (record_at t 0).p && leb (record_at t 0).p 16) (leb (record_at t 0).q 8) r).1

  -- record j + 1 is an ARRAY
  is_array_at : (j : ℕ) → (scan_at t (suc j)).due ≡ an_array → suc j ≤ records t → read (record_at t (suc j)) ≡ array (record_at t (suc j)).p
  unfolding due
  is_array_at j e l =
      let c = a.faultless (suc j) (goes_on (suc j) l (ap more e ∙ (unfold more in refl))) in
      read_array (record_at t (suc j)) (eqb-true (record_at t (suc j)).kind 2 (sym (ap (λ (d : Due). due d (record_at t (suc j)).kind) e) ∙ c.kind))

  arrays_at : (j : ℕ) → suc j ≤ records t → (scan_at t (suc j)).arrays ≡ (record_at t 0).q
  arrays_at j l = (placed_at t m a (suc j) l).arrays_are (omega arith)

  next_due : (s : Scan) (i : ℕ) (n : ℕ) → i < s.arrays → (next s i (array n)).due ≡ an_array
  unfolding next arrayed
  next_due s i n h = rw (lt-ltb i s.arrays h) refl

  array_due : (j : ℕ) → j < (record_at t 0).q → ((scan_at t (suc j)).due ≡ an_array) × (suc j ≤ records t)
  unfolding scan_at start next headed
  array_due zero h = (rw (first_is, ne_eqb (record_at t 0).q 0 (λ e. omega arith)) refl, some_record)
  array_due (suc j) h =
      let before = array_due j (omega arith) in
      let l = goes_on (suc j) before.1 (ap more before.0 ∙ (unfold more in refl)) in
      let q = arrays_at j before.1 in
      (ap (λ (i : Instruction). (next (scan_at t (suc j)) (suc j) i).due) (is_array_at j before.0 before.1) ∙ next_due (scan_at t (suc j)) (suc j) (record_at t (suc j)).p (omega arith), l)

  -- array n is record n + 1, and its length is there
  pub array_at : (n : ℕ) → n < (record_at t 0).q → (suc n < records t) × (get_or (lengths_of (code_of t)) n 0 ≡ (record_at t (suc n)).p)
  array_at n h =
      let d = array_due n h in
      let l = goes_on (suc n) d.1 (ap more d.0 ∙ (unfold more in refl)) in
      let is = code_from t (suc n) l ∙ ap (λ (i : Instruction). i ∷ drop (suc (suc n)) (code_of t)) (is_array_at n d.0 d.1) in
      let count = ((placed_at t m a (suc n) d.1).arraying d.0).0 in
      let same : arrays_before (suc n) (code_of t) ≡ n = omega arith in
      (l, ap (λ (k : ℕ). get_or (lengths_of (code_of t)) k 0) (sym same) ∙ length_at (suc n) (code_of t) is)

  pub arrays_all : length (lengths_of (code_of t)) ≡ (record_at t 0).q
  arrays_all =
      let p = placed_at t m a (records t) (omega arith) in
      lengths_all (code_of t) ∙ ap (λ (n : ℕ). arrays_before n (code_of t)) (code_length t) ∙ p.arrayed_all (inr (inr over_at_end)) ∙ p.arrays_are some_record

  -- in a body the arrays that there are are the tape's
  pub arrays_here : (i : ℕ) → 0 < i → i ≤ records t → (scan_at t i).arrays ≡ length (lengths_of (code_of t))
  arrays_here i h l = (placed_at t m a i l).arrays_are h ∙ sym arrays_all

  pub arrays_few : length (lengths_of (code_of t)) ≤ 8
  arrays_few = omega (arith, arrays_all, first_range)

  -- and it is no longer than 4096
  pub array_small : (n : ℕ) → n < (record_at t 0).q → (record_at t (suc n)).p ≤ 4096
  unfolding asks
  array_small n h =
      let d = array_due n h in
      let l = goes_on (suc n) d.1 (ap more d.0 ∙ (unfold more in refl)) in
      let c = a.faultless (suc n) l in
      let r = rw (is_array_at n d.0 d.1) at c.range in
      leb-true (record_at t (suc n)).p 4096 (and_parts (leb 1 (record_at t (suc n)).p) (leb (record_at t (suc n)).p 4096) r).1

  pub one_at_least : 0 < records t
  one_at_least = some_record
