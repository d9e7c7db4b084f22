-- Each record of an accepted tape keeps what is said of where functions and arrays stand; so it holds everywhere. Assumes nothing.
use mathlib.Core.Path.{◌≡◌, refl, sym, ap, ◌∙◌}
use mathlib.Core.Bool.{Bool, true, false, cond}
use mathlib.Core.List.{List, [], ◌∷◌, ◌++◌}
use mathlib.Core.Logic.{◌⊎◌, inl, inr, ⊎_elim}
use Prim.Native.Nat.{ℕ, zero, suc, ◌≤◌, ◌<◌}
use native.Mathlib.Nat.{eq-or-lt_of_le, le_of_suc-le-suc, add-zero}
use native.Mathlib.Omega.{arith}
use borrow.Author.Tests.{eqb-true, eqb-false, ltb-true, ltb-false}
use lib.Dec.{ltb, eqb}
use lib.ListN.{length, get_or, length-append, get_or-append}
use lib.Seq.{get_or-append-add}
use Rattle.word.specs.Records.{records, record_at}
use Rattle.tape.specs.Instruction.{Instruction, cfunc, read, code_of}
use Rattle.tape.specs.Scan.{Due, a_program, an_array, a_function, a_body, nothing, Known, Body, Scan, in_body, headed, arrayed, enters, returns}
use Rattle.tape.specs.Entries.{declares}
use Rattle.tape.proofs.Places.{scan_at}
use Rattle.tape.proofs.Declaring.{one_array, one_function, arrays_before, functions_before}
use Rattle.tape.proofs.Entered.{began, StandsAt, Placed}

-- two dues are not the same
number : Due → ℕ
number a_program = 0
number an_array = 1
number a_function = 2
number a_body = 3
number nothing = 4

apart : {d e : Due} {A : Type 0} → d ≡ e → eqb (number d) (number e) ≡ false → A
apart {d} {e} p h = absurd (eqb-false (number d) (number e) h (ap number p))

abbrev none : Known
none = record { params = 0; steps = 0; place = 0 }

-- the present function, once its RET is passed
abbrev finished : Scan → Known
finished s = record { params = s.params; steps = suc s.body.steps; place = s.place }

-- the counts before the next record, where record i says `x`
pub record Counts (t : List ℕ) (i : ℕ) (x : Instruction) : Type 0 where
  pub functions : functions_before (suc i) (code_of t) ≡ one_function (declares x) (functions_before i (code_of t))
  pub arrays : arrays_before (suc i) (code_of t) ≡ one_array (declares x) (arrays_before i (code_of t))

module _ (t : List ℕ) (i : ℕ) (h : i < records t) (s : Scan) (is : s ≡ scan_at t i) (p : Placed t i s) where
  -- an earlier due than aProgram's has passed
  later : {d : Due} → s.due ≡ d → eqb (number d) 0 ≡ false → 0 < i
  unfolding number
  later {d} e q = go i refl
    where
      go : (n : ℕ) → i ≡ n → 0 < i
      go zero z = apart (sym e ∙ p.zeroth z) q
      go (suc n) z = omega arith

  pub in_body_lem : (b : Body) → s.due ≡ a_body → functions_before (suc i) (code_of t) ≡ functions_before i (code_of t) → arrays_before (suc i) (code_of t) ≡ arrays_before i (code_of t)
      → Placed t (suc i) (in_body s b)
  unfolding in_body number
  in_body_lem b e f a =
      record {
        begun = f ∙ p.begun;
        present = p.present;
        known = p.known;
        arraying = λ q. apart (sym e ∙ q) refl;
        arrayed_all = λ q. a ∙ p.arrayed_all q;
        first = λ q. apart (sym e ∙ q) refl;
        zeroth = λ q. absurd (omega arith);
        arrays_are = λ q. p.arrays_are (later e refl);
      }

  pub ended : s.due ≡ a_body → functions_before (suc i) (code_of t) ≡ functions_before i (code_of t) → arrays_before (suc i) (code_of t) ≡ arrays_before i (code_of t)
      → Placed t (suc i) (returns s)
  unfolding returns began number
  ended e f a =
      let k = finished s in
      let l = length-append s.known (k ∷ []) in
      let n = length s.known in
      let b = eqb (suc n) s.functions in
      record {
        begun = f ∙ p.begun ∙ ap (λ (d : Due). began d n) e ∙ count b n (length (s.known ++ (k ∷ []))) (omega (arith, l));
        present = λ q. not_now b a_body refl refl q;
        known = λ g q. among k refl g (omega (arith, l));
        arraying = λ q. not_now b an_array refl refl q;
        arrayed_all = λ q. a ∙ p.arrayed_all (inr (inl e));
        first = λ q. not_now b a_program refl refl q;
        zeroth = λ q. absurd (omega arith);
        arrays_are = λ q. p.arrays_are (later e refl);
      }
    where
      not_now : {A : Type 0} (b : Bool) (d : Due) → eqb 4 (number d) ≡ false → eqb 2 (number d) ≡ false → cond b nothing a_function ≡ d → A
      not_now true d u v q = apart q u
      not_now false d u v q = apart q v

      -- a function that was known, or the present one
      among : (k : Known) → k ≡ finished s → (g : ℕ) → g < suc (length s.known)
          → (q : ℕ) × StandsAt t g (get_or (s.known ++ (k ∷ [])) g none).place (get_or (s.known ++ (k ∷ [])) g none).params q
      among k z g l =
          ⊎_elim
          (λ (v : g ≡ length s.known).
          let here : get_or (s.known ++ (k ∷ [])) g none ≡ finished s
          = ap (λ (n : ℕ). get_or (s.known ++ (k ∷ [])) n none) (v ∙ sym (add-zero (length s.known))) ∙ get_or-append-add s.known (k ∷ []) 0 none ∙ z in
          rw (here, v) (s.slots, p.present e))
          (λ (v : g < length s.known). rw (get_or-append s.known (k ∷ []) none g v) (p.known g v))
          (eq-or-lt_of_le (le_of_suc-le-suc l))

      count : (b : Bool) (n m : ℕ) → suc n ≡ m → suc n ≡ began (cond b nothing a_function) m
      count true n m q = q
      count false n m q = q

  pub entered : (v q : ℕ) → s.due ≡ a_function → read (record_at t i) ≡ cfunc v q → functions_before (suc i) (code_of t) ≡ suc (functions_before i (code_of t))
      → arrays_before (suc i) (code_of t) ≡ arrays_before i (code_of t) → Placed t (suc i) (enters s i v q)
  unfolding enters began number
  entered v q e r f a =
      record {
        begun = f ∙ ap suc (p.begun ∙ ap (λ (d : Due). began d (length s.known)) e);
        present = λ u. record { there = h; is = r; rank = ap (λ (z : Scan). length z.known) (sym is); due_there = ap (λ (z : Scan). z.due) (sym is) ∙ e };
        known = p.known;
        arraying = λ u. apart u refl;
        arrayed_all = λ u. a ∙ p.arrayed_all (inl e);
        first = λ u. apart u refl;
        zeroth = λ u. absurd (omega arith);
        arrays_are = λ u. p.arrays_are (later e refl);
      }

  pub listed : s.due ≡ an_array → functions_before (suc i) (code_of t) ≡ functions_before i (code_of t) → arrays_before (suc i) (code_of t) ≡ suc (arrays_before i (code_of t))
      → Placed t (suc i) (arrayed s i)
  unfolding arrayed began number
  listed e f a =
      let r = p.arraying e in
      let b = ltb i s.arrays in
      record {
        begun = f ∙ p.begun ∙ ap (λ (d : Due). began d (length s.known)) e ∙ same b (length s.known);
        present = λ u. not_now b a_body refl refl u;
        known = p.known;
        arraying = λ u. (omega (arith, a, r.0), ltb-true i s.arrays (still b refl u));
        arrayed_all = λ u. let l = ltb-false i s.arrays (stopped b refl u) in omega (arith, a, r.0, r.1, l);
        first = λ u. not_now b a_program refl refl u;
        zeroth = λ u. absurd (omega arith);
        arrays_are = λ u. p.arrays_are (later e refl);
      }
    where
      same : (b : Bool) (k : ℕ) → k ≡ began (cond b an_array a_function) k
      same true k = refl
      same false k = refl

      not_now : {A : Type 0} (b : Bool) (d : Due) → eqb 1 (number d) ≡ false → eqb 2 (number d) ≡ false → cond b an_array a_function ≡ d → A
      not_now true d u v q = apart q u
      not_now false d u v q = apart q v

      still : (b : Bool) → ltb i s.arrays ≡ b → cond b an_array a_function ≡ an_array → ltb i s.arrays ≡ true
      still true q u = q
      still false q u = apart u refl

      stopped : (b : Bool) → ltb i s.arrays ≡ b
          → (cond b an_array a_function ≡ a_function) ⊎ ((cond b an_array a_function ≡ a_body) ⊎ (cond b an_array a_function ≡ nothing)) → ltb i s.arrays ≡ false
      stopped true q (inl u) = apart u refl
      stopped true q (inr (inl u)) = apart u refl
      stopped true q (inr (inr u)) = apart u refl
      stopped false q u = q

  pub began_it : (v q : ℕ) → s.due ≡ a_program → s.known ≡ [] → (record_at t 0).q ≡ q → functions_before (suc i) (code_of t) ≡ functions_before i (code_of t)
      → arrays_before (suc i) (code_of t) ≡ arrays_before i (code_of t) → Placed t (suc i) (headed v q)
  unfolding headed began number functions_before arrays_before
  began_it v q e none_yet r f a =
      let z = p.first e in
      let b = eqb q 0 in
      let no_function : functions_before i (code_of t) ≡ 0 = ap (λ (n : ℕ). functions_before n (code_of t)) z in
      let no_array : arrays_before i (code_of t) ≡ 0 = ap (λ (n : ℕ). arrays_before n (code_of t)) z in
      record {
        begun = f ∙ no_function ∙ same b;
        present = λ u. not_now b a_body refl refl u;
        known = λ g u. absurd (omega arith);
        arraying = λ u. let l = eqb-false q 0 (some b refl u) in (omega (arith, a, no_array, z), positive q l z);
        arrayed_all = λ u. a ∙ no_array ∙ sym (eqb-true q 0 (empty b refl u));
        first = λ u. not_now b a_program refl refl u;
        zeroth = λ u. absurd (omega arith);
        arrays_are = λ u. sym r;
      }
    where
      same : (b : Bool) → 0 ≡ began (cond b a_function an_array) 0
      same true = refl
      same false = refl

      positive : (n : ℕ) → (n ≡ 0 → ⊥) → i ≡ 0 → suc i ≤ n
      positive zero l u = absurd (l refl)
      positive (suc n) l u = omega arith

      not_now : {A : Type 0} (b : Bool) (d : Due) → eqb 2 (number d) ≡ false → eqb 1 (number d) ≡ false → cond b a_function an_array ≡ d → A
      not_now true d u v w = apart w u
      not_now false d u v w = apart w v

      some : (b : Bool) → eqb q 0 ≡ b → cond b a_function an_array ≡ an_array → eqb q 0 ≡ false
      some true w u = apart u refl
      some false w u = w

      empty : (b : Bool) → eqb q 0 ≡ b
          → (cond b a_function an_array ≡ a_function) ⊎ ((cond b a_function an_array ≡ a_body) ⊎ (cond b a_function an_array ≡ nothing)) → eqb q 0 ≡ true
      empty true w u = w
      empty false w (inl u) = apart u refl
      empty false w (inr (inl u)) = apart u refl
      empty false w (inr (inr u)) = apart u refl
