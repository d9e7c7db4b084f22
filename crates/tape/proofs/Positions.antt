-- Where the functions and the arrays of an accepted tape stand, everywhere on it; and what follows of its entries and its arrays. Assumes nothing.
use mathlib.Core.Path.{◌≡◌, refl, sym, ap, ◌∙◌}
use mathlib.Core.Bool.{true, false≢true}
use mathlib.Core.List.{List, [], ◌∷◌}
use mathlib.Core.Logic.{◌⊎◌, inl, inr}
use Prim.Native.Nat.{ℕ, zero, suc, ◌≤◌, ◌<◌}
use native.Mathlib.Omega.{arith}
use borrow.Author.Tests.{eqb-true}
use lib.Dec.{eqb}
use lib.ListN.{length, drop}
use Rattle.word.specs.Records.{records, record_at, same}
use Rattle.word.specs.declared.Record.{Record}
use Rattle.tape.specs.Instruction.{Instruction, cfunc, other, write, code_of}
use Rattle.tape.specs.Scan.{Due, a_program, an_array, a_function, a_body, nothing, start, next}
use Rattle.tape.specs.Faults.{due, more}
use Rattle.tape.specs.Entries.{declares, entry_at}
use Rattle.tape.proofs.Cases.{by_kind, read_cfunc}
use Rattle.tape.proofs.Reading.{code_from}
use Rattle.tape.proofs.Places.{scan_at, Clean, Passed}
use Rattle.tape.proofs.Declaring.{one_array, one_function, functions_before, arrays_next, functions_next, entry_at_lem}
use Rattle.std.proofs.lemmas.Bool.{and_parts}
use Rattle.tape.proofs.Entered.{is_body, is_function, is_array, is_program, began, StandsAt, Placed}
use Rattle.tape.proofs.Placing.{Counts, in_body_lem, ended, entered, listed, began_it}

placed_start : (t : List ℕ) → Placed t 0 start
unfolding start began functions_before
placed_start t =
    record {
      begun = refl;
      present = λ e. let z : ◌≡◌ {A = ℕ} 0 1 = cc in absurd (omega arith);
      known = λ f h. absurd (omega arith);
      arraying = λ e. let z : ◌≡◌ {A = ℕ} 0 1 = cc in absurd (omega arith);
      arrayed_all = λ e. nowhere e;
      first = λ e. refl;
      zeroth = λ e. refl;
      arrays_are = λ h. absurd (omega arith);
    }
  where
    nowhere : {A : Type 0} → (a_program ≡ a_function) ⊎ ((a_program ≡ a_body) ⊎ (a_program ≡ nothing)) → A
    nowhere (inl e) = let z : ◌≡◌ {A = ℕ} 0 1 = cc in absurd (omega arith)
    nowhere (inr (inl e)) = let z : ◌≡◌ {A = ℕ} 0 1 = cc in absurd (omega arith)
    nowhere (inr (inr e)) = let z : ◌≡◌ {A = ℕ} 0 1 = cc in absurd (omega arith)

empty_start : (t : List ℕ) (i : ℕ) → i ≡ 0 → (scan_at t i).known ≡ []
unfolding scan_at start
empty_start t i e = rw e refl

-- a record of no kind is never due
pub other_kind : (x : Record) → same x (write other) ≡ true → x.kind ≡ 0
unfolding same write
other_kind x e = eqb-true x.kind 0 (and_parts (eqb x.kind 0) _ e).0

pub never_due : (d : Due) (k : ℕ) → more d ≡ true → due d k ≡ true → k ≡ 0 → ⊥
unfolding due more
never_due a_program k m e z = let q = eqb-true k 1 e in omega arith
never_due an_array k m e z = let q = eqb-true k 2 e in omega arith
never_due a_function k m e z = let q = eqb-true k 3 e in omega arith
never_due a_body k m e z = false≢true (rw z at e)
never_due nothing k m e z = false≢true m

placed_next : (t : List ℕ) (i : ℕ) → i < records t → Clean (scan_at t i) (record_at t i) → Placed t i (scan_at t i) → Placed t (suc i) (scan_at t (suc i))
unfolding scan_at next declares one_function one_array
placed_next t i h c p =
    let s = scan_at t i in
    let x = record_at t i in
    let m = c.due_now in
    let body : (k : ℕ) → x.kind ≡ k → 10 ≤ k → s.due ≡ a_body = λ k e l. is_body s.due x.kind m c.kind (omega arith) in
    by_kind (λ j. Counts t i j → same x (write j) ≡ true → Placed t (suc i) (next s i j)) x
    (record {
      on_program = λ e n u.
          let d = is_program s.due x.kind m c.kind e in
          began_it t i h s refl p x.p x.q d (empty_start t i (p.first d)) (ap (λ (j : ℕ). (record_at t j).q) (sym (p.first d))) n.functions n.arrays;
      on_array = λ e n u. listed t i h s refl p (is_array s.due x.kind m c.kind e) n.functions n.arrays;
      on_cfunc = λ e n u. entered t i h s refl p x.p x.q (is_function s.due x.kind m c.kind e) (read_cfunc x e) n.functions n.arrays;
      on_lit = λ e n u. in_body_lem t i h s refl p _ (body 10 e (omega arith)) n.functions n.arrays;
      on_var = λ e n u. in_body_lem t i h s refl p _ (body 11 e (omega arith)) n.functions n.arrays;
      on_get = λ e n u. in_body_lem t i h s refl p _ (body 12 e (omega arith)) n.functions n.arrays;
      on_not = λ e n u. in_body_lem t i h s refl p _ (body 13 e (omega arith)) n.functions n.arrays;
      on_bin = λ e n u. in_body_lem t i h s refl p _ (body 14 e (omega arith)) n.functions n.arrays;
      on_call = λ e n u. in_body_lem t i h s refl p _ (body 15 e (omega arith)) n.functions n.arrays;
      on_def = λ e n u. in_body_lem t i h s refl p _ (body 16 e (omega arith)) n.functions n.arrays;
      on_set = λ e n u. in_body_lem t i h s refl p _ (body 17 e (omega arith)) n.functions n.arrays;
      on_put = λ e n u. in_body_lem t i h s refl p _ (body 18 e (omega arith)) n.functions n.arrays;
      on_for = λ e n u. in_body_lem t i h s refl p _ (body 19 e (omega arith)) n.functions n.arrays;
      on_end = λ e n u. in_body_lem t i h s refl p _ (body 20 e (omega arith)) n.functions n.arrays;
      on_ret = λ e n u. ended t i h s refl p (body 21 e (omega arith)) n.functions n.arrays;
      on_other = λ n u. absurd (never_due s.due x.kind m c.kind (other_kind x u));
    })
    (record { functions = functions_next i (code_of t) (code_from t i h); arrays = arrays_next i (code_of t) (code_from t i h) })
    c.unused

pub placed_at : (t : List ℕ) (m : ℕ) → Passed t m → (i : ℕ) → i ≤ records t → Placed t i (scan_at t i)
unfolding scan_at
placed_at t m a zero h = placed_start t
placed_at t m a (suc i) h = placed_next t i h (a.faultless i h) (placed_at t m a i (omega arith))

-- ---- the entry and the place of a function whose CFUNC is there
module _ (t : List ℕ) (m : ℕ) (a : Passed t m) {f place params slots : ℕ} (there : StandsAt t f place params slots) where
  pub code_there : drop place (code_of t) ≡ cfunc params slots ∷ drop (suc place) (code_of t)
  code_there = code_from t place there.there ∙ ap (λ (i : Instruction). i ∷ drop (suc place) (code_of t)) there.is

  pub before : functions_before place (code_of t) ≡ f
  unfolding began
  before =
      (placed_at t m a place (let l = there.there in omega arith)).begun
      ∙ ap (λ (d : Due). began d (length (scan_at t place).known)) there.due_there ∙ there.rank

  pub entry_there : entry_at (code_of t) f ≡ record { params = params; code = drop (suc place) (code_of t) }
  entry_there = ap (entry_at (code_of t)) (sym before) ∙ entry_at_lem place (code_of t) code_there
