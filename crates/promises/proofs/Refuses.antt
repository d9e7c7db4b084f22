-- The compiler refuses under the listed conditions and no others, the first of them first, and then no word of the output changes; what it reads are exactly
-- the written forms of scripts; and its answer is the only one. Assumes nothing.
use mathlib.Core.Path.{◌≡◌, refl, sym, ap, ◌∙◌, subst}
use mathlib.Core.Bool.{Bool, true, false}
use mathlib.Core.List.{List}
use mathlib.Core.Logic.{◌↔◌}
use Prim.Native.Nat.{ℕ, suc, ◌≤◌}
use native.Mathlib.Omega.{arith}
use borrow.Author.Tests.{leb-false, lt-leb}
use lib.Dec.{leb}
use lib.ListN.{length, take}
use Rattle.word.specs.Records.{records, records_of, sized}
use Rattle.word.proofs.Memory.{Words}
use Rattle.script.specs.Tree.{Program}
use Rattle.script.specs.Parse.{Parsed, parsed, refused, read_table}
use Rattle.script.specs.Written.{table, listing, Within}
use Rattle.script.specs.Stage.{over_program}
use Rattle.script.specs.Scope.{scope_f}
use Rattle.script.specs.Stores.{stores}
use Rattle.script.specs.Stage.{First}
use Rattle.script.proofs.Exactly.{reads_exactly as exactly}
use Rattle.script.proofs.Stopping.{first_fault as stops_first}
use Rattle.script.proofs.FirstScope.{scope_first as scope_stops}
use Rattle.script.proofs.FirstStore.{stores_first as stores_stop}
use Rattle.tape.specs.Tape.{tape}
use Rattle.translation.specs.Translate.{translate}
use Rattle.translation.specs.Compile.{Result, stages, first_of, written, unless_fault, compile_by, compile}
use Rattle.translation.specs.Compile.{Compiled}
use Rattle.promises.specs.Compiles.{Faulty, by_reading, by_stage, by_room}
use Rattle.std.specs.Prelude.{Ok, Err}
use Rattle.word.specs.Refusals.{refuse}
use Rattle.translation.specs.Compile.{announced}

-- ---- READS EXACTLY: a table passes 1 to 7 exactly if it is the written form of a script within the ranges and depths of 01; writing, then reading, gives the
-- script, and reading, then writing, the words
pub reads_exactly : (t : List ℕ) → Words t → (p : Program) (i : ℕ) → (read_table t ≡ parsed p i) ↔ ((table p ≡ t) × Within p × (i ≡ records t))
reads_exactly = exactly

-- ---- FIRST FAULT: a record at fault is the first one: every table that agrees with this one up to and including that record is refused there, with the same
-- number, in that stage (2 to 7; 8 and 9; 11)
pub first_fault : (t u : List ℕ) (number place : ℕ) → read_table t ≡ refused number place → 2 ≤ number → sized 4096 (length u) ≡ true
    → take (suc place) (records_of u) ≡ take (suc place) (records_of t) → read_table u ≡ refused number place
first_fault = stops_first

pub first_scope : (p q : Program) (number place : ℕ) → Within p → Within q → over_program scope_f p ≡ refuse number place
    → take (suc place) (listing q) ≡ take (suc place) (listing p) → over_program scope_f q ≡ refuse number place
first_scope = scope_stops

pub first_store : (p q : Program) (number place : ℕ) → Within p → Within q → stores p ≡ refuse number place
    → take (suc place) (listing q) ≡ take (suc place) (listing p) → stores q ≡ refuse number place
first_store = stores_stop

-- ---- REFUSES EXACTLY
number_of : Compiled → ℕ
number_of (Ok w) = 0
number_of (Err r) = r.number

place_of : Compiled → ℕ
place_of (Ok w) = 0
place_of (Err r) = r.place

clash : {A : Type 0} {n steps number place : ℕ} → ◌≡◌ {A = Compiled} (Ok (announced n steps)) (refuse number place) → A
clash e = let z : ◌≡◌ {A = ℕ} 0 1 = cc in absurd (omega arith)

module _ (t out : List ℕ) where
  why : (number place number₁ place₁ : ℕ) → (compile t out).answer ≡ refuse number place → (compile t out).answer ≡ refuse number₁ place₁ → Faulty t out number₁ place₁
      → Faulty t out number place
  unfolding number_of place_of
  why number place number₁ place₁ h e w =
      let n : number₁ ≡ number = ap number_of (sym e ∙ h) in
      let p : place₁ ≡ place = ap place_of (sym e ∙ h) in
      subst (λ (k : ℕ). Faulty t out number k) p (subst (λ (k : ℕ). Faulty t out k place₁) n w)

  pub refused_why : (number place : ℕ) → (compile t out).answer ≡ refuse number place → Faulty t out number place
  unfolding compile compile_by unless_fault written
  refused_why number place h = reading (read_table t) refl
    where
      roomy : (p : Program) (i : ℕ) (b : Bool) → leb (length (tape (translate p))) (length out) ≡ b → read_table t ≡ parsed p i → first_of stages p ≡ Ok tt → Faulty t out number place
      roomy p i true q e f = clash (rw (e, f, q) at h)
      roomy p i false q e f = why number place 13 (records (tape (translate p))) h (rw (e, f, q) refl) (by_room e f (leb-false _ _ q))

      staging : (p : Program) (i : ℕ) (c : First) → first_of stages p ≡ c → read_table t ≡ parsed p i → Faulty t out number place
      staging p i (Ok u) f e = roomy p i (leb (length (tape (translate p))) (length out)) refl e f
      staging p i (Err r) f e = why number place r.number r.place h (rw (e, f) refl) (by_stage e f)

      reading : (r : Parsed Program) → read_table t ≡ r → Faulty t out number place
      reading (parsed p i) e = staging p i (first_of stages p) refl e
      reading (refused n k) e = why number place n k h (rw e refl) (by_reading e)

  pub refused_then : (number place : ℕ) → Faulty t out number place → compile t out ≡ record { answer = refuse number place; out = out }
  unfolding compile compile_by unless_fault written
  refused_then number place (by_reading e) = rw e refl
  refused_then number place (by_stage e f) = rw (e, f) refl
  refused_then number place (by_room e f l) = rw (e, f, lt-leb _ _ l) refl

-- ---- ONE ANSWER: two answers that meet the contract of `compile` are equal
pub one_answer : (t out : List ℕ) (r r₁ : Compiled) (exit exit₁ : List ℕ) → record { answer = r; out = exit } ≡ compile t out
    → record { answer = r₁; out = exit₁ } ≡ compile t out → (r ≡ r₁) × (exit ≡ exit₁)
one_answer t out r r₁ exit exit₁ e e₁ = (ap (λ (x : Result). x.answer) (e ∙ sym e₁), ap (λ (x : Result). x.out) (e ∙ sym e₁))
