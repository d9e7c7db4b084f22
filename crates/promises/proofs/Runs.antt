-- The machine's promises, for every accepted tape, compiled or not (demands 1 to 3). The contract of `machine::run` is that its answer and the bytes at exit
-- are `run`'s, which is what these theorems speak of. Assumes nothing.
use mathlib.Core.Path.{◌≡◌, refl, sym, ap, ◌∙◌, subst}
use mathlib.Core.Bool.{Bool, true, false}
use mathlib.Core.List.{List, ◌∷◌}
use Prim.Native.Nat.{ℕ, zero, suc, ◌≤◌, ◌<◌}
use native.Mathlib.Omega.{arith}
use borrow.Author.Tests.{eq-eqb, ne_eqb, eqb-true, eqb-false}
use lib.Dec.{eqb}
use lib.ListN.{length}
use Rattle.tape.specs.Instruction.{Code, code_of}
use Rattle.tape.specs.Tape.{instructions}
use Rattle.word.specs.Bytes.{total}
use Rattle.tape.specs.Entries.{lengths_of, entry_at, exposed}
use Rattle.tape.specs.Check.{check}
use Rattle.tape.specs.Rules.{Machine, at, halted, stuck, place}
use Rattle.tape.specs.Check.{Checked}
use Rattle.tape.proofs.Accepted.{accepted_is_program}
use Rattle.tape.proofs.Meaning.{cprogram}
use Rattle.tape.proofs.Running.{Underway, underway, opening, standing}
use Rattle.tape.proofs.Counted.{stands_done, stands_underway, total_steps}
use Rattle.tape.proofs.Alike.{Alike, both_at, both_halted, both_stuck, left_alike, step_alike, starts_alike, lockstep as stand_alike}
use Rattle.machine.specs.Run.{Result, begin, after, result_of, unless, admitted, run_by, run}
use Rattle.machine.specs.declared.Ran.{Ran}
use Rattle.machine.specs.declared.Ran.TheVariants.{Done, Stopped}
use Rattle.promises.specs.Runs.{Runs, Turned, by_check, by_arguments, by_memory, goes_through, records_of, end_of}
use Rattle.std.specs.Prelude.{Ok, Err}
use Rattle.word.specs.Refusals.{OrRefused, refuse}

-- ---- REFUSES EXACTLY: a run is refused under the listed conditions and no others, the first of them first, and then no byte changes
never_refused : (c : Code) (k : Machine) (number place : ℕ) → (result_of c k).answer ≡ refuse number place → ⊥
unfolding result_of
never_refused c (at d s τ L F w) number place e = let z : ◌≡◌ {A = ℕ} 0 1 = cc in omega arith
never_refused c (halted v w) number place e = let z : ◌≡◌ {A = ℕ} 0 1 = cc in omega arith
never_refused c stuck number place e = let z : ◌≡◌ {A = ℕ} 0 1 = cc in omega arith

number_of : OrRefused Ran → ℕ
number_of (Ok a) = 0
number_of (Err r) = r.number

place_of : OrRefused Ran → ℕ
place_of (Ok a) = 0
place_of (Err r) = r.place

module _ (t arguments memory : List ℕ) (limit : ℕ) where
  abbrev pub Answers : ℕ → ℕ → Type 0
  Answers number place = (run t arguments memory limit).answer ≡ refuse number place

  why : (number place number₁ place₁ : ℕ) → Answers number place → (run t arguments memory limit).answer ≡ refuse number₁ place₁ → Turned t arguments memory number₁ place₁
      → Turned t arguments memory number place
  unfolding number_of place_of
  why number place number₁ place₁ h e w =
      let n : number₁ ≡ number = ap number_of (sym e ∙ h) in
      let p : place₁ ≡ place = ap place_of (sym e ∙ h) in
      subst (λ (k : ℕ). Turned t arguments memory number k) p (subst (λ (k : ℕ). Turned t arguments memory k place₁) n w)

  pub refused_why : (number place : ℕ) → Answers number place → Turned t arguments memory number place
  unfolding run run_by admitted unless
  refused_why number place h = checked (check t) refl
    where
      sized : {steps : ℕ} (b : Bool) → eqb (length memory) (total (lengths_of (code_of t))) ≡ b → check t ≡ Ok steps
          → length arguments ≡ (exposed (code_of t)).params → Turned t arguments memory number place
      sized true q e a = absurd (never_refused (code_of t) _ number place (rw (e, eq-eqb _ _ a, q) at h))
      sized false q e a = why number place 32 0 h (rw (e, eq-eqb _ _ a, q) refl) (by_memory e a (eqb-false _ _ q))

      given : {steps : ℕ} (b : Bool) → eqb (length arguments) (exposed (code_of t)).params ≡ b → check t ≡ Ok steps → Turned t arguments memory number place
      given true q e = sized (eqb (length memory) (total (lengths_of (code_of t)))) refl e (eqb-true _ _ q)
      given false q e = why number place 31 0 h (rw (e, q) refl) (by_arguments e (eqb-false _ _ q))

      checked : (c : Checked) → check t ≡ c → Turned t arguments memory number place
      checked (Ok steps) e = given (eqb (length arguments) (exposed (code_of t)).params) refl e
      checked (Err r) e = why number place r.number r.place h (rw e refl) (by_check e)

  pub refused_then : (number place : ℕ) → Turned t arguments memory number place → run t arguments memory limit ≡ record { answer = refuse number place; memory = memory }
  unfolding run run_by admitted unless
  refused_then number place (by_check e) = rw e refl
  refused_then number place (by_arguments e a) = rw (e, ne_eqb _ _ a) refl
  refused_then number place (by_memory e a m) = rw (e, eq-eqb _ _ a, ne_eqb _ _ m) refl

-- ---- STANDS: under the limit n, the answer and the bytes are those of the core rules after n counted steps
pub stands : (t arguments memory : List ℕ) (m : ℕ) → Runs t arguments memory m → (n : ℕ)
    → run t arguments memory n ≡ result_of (code_of t) (after (code_of t) arguments memory n)
unfolding run run_by admitted unless
stands t arguments memory m r n = rw (r.accepted, eq-eqb _ _ r.arguments_fit, eq-eqb _ _ r.memory_fits) refl

-- ---- COUNTED: an accepted tape is done after exactly the steps that the check computes, whatever the values; before that it stops where the limit says
pub record Counted (t arguments memory : List ℕ) (m : ℕ) : Type 0 where
  pub value : ℕ
  pub bytes : List ℕ
  pub at_end : (n : ℕ) → m ≤ n → run t arguments memory n ≡ record { answer = Ok (Done value m); memory = bytes }
  pub before : (n : ℕ) → n < m → (r : ℕ) × ((run t arguments memory n).answer ≡ Ok (Stopped n r))

stopped_at : (c : Code) (n : ℕ) {k : Machine} → Underway n k → (r : ℕ) × ((result_of c k).answer ≡ Ok (Stopped n r))
unfolding result_of
stopped_at c n (underway {i} {c = d} {L} q e) = (place (length c) (i ∷ d) L, ap (λ (k : ℕ). Ok (Stopped k (place (length c) (i ∷ d) L))) e)

pub counted : (t arguments memory : List ℕ) (m : ℕ) → Runs t arguments memory m → Counted t arguments memory m
unfolding after begin result_of
counted t arguments memory m r =
    let q = accepted_is_program t m r.accepted in
    let p = q.program in
    let e = q.steps in
    let w = cprogram p arguments (opening memory) in
    let there : (n : ℕ) → after (code_of t) arguments memory n ≡ standing (instructions p) arguments memory n =
    λ n. ap (λ (c : Code). standing c arguments memory n) q.is in
    record {
      value = w.0;
      bytes = w.1.bytes;
      at_end = λ n l.
          stands t arguments memory m r n ∙ ap (result_of (code_of t)) (there n ∙ stands_done p q.sound arguments memory n (omega arith))
          ∙ ap (λ (k : ℕ). record { answer = Ok (Done w.0 k); memory = w.1.bytes }) (total_steps p arguments memory ∙ sym e);
      before = λ n l.
          let x = stopped_at (code_of t) n (stands_underway p q.sound arguments memory n (omega arith)) in
          (x.0, ap (λ (y : Result). y.answer) (stands t arguments memory m r n ∙ ap (result_of (code_of t)) (there n)) ∙ x.1);
    }

-- ---- LOCKSTEP: two runs of one accepted tape go through the same records in the same order, and under one limit end alike
pub record Lockstep (t arguments memory arguments₁ memory₁ : List ℕ) : Type 0 where
  pub same_records : (n : ℕ) → records_of t arguments memory n ≡ records_of t arguments₁ memory₁ n
  pub same_end : (limit : ℕ) → end_of (run t arguments memory limit).answer ≡ end_of (run t arguments₁ memory₁ limit).answer

same_through : (c : Code) (n : ℕ) {k k₁ : Machine} → Alike k k₁ → goes_through c n k ≡ goes_through c n k₁
unfolding goes_through
same_through c zero a = refl
same_through c (suc n) a = rw (left_alike a, same_through c n (step_alike (lengths_of c) (entry_at c) a)) refl

same_ends : (c : Code) {k k₁ : Machine} → Alike k k₁ → end_of (result_of c k).answer ≡ end_of (result_of c k₁).answer
unfolding end_of result_of
same_ends c (both_at r f e) = rw e refl
same_ends c (both_halted e) = rw e refl
same_ends c both_stuck = refl

pub lockstep : (t arguments memory arguments₁ memory₁ : List ℕ) (m : ℕ) → Runs t arguments memory m → Runs t arguments₁ memory₁ m
    → Lockstep t arguments memory arguments₁ memory₁
unfolding after begin
lockstep t arguments memory arguments₁ memory₁ m r r₁ =
    record {
      same_records = λ n. same_through (code_of t) n (starts_alike (code_of t) arguments arguments₁ memory memory₁);
      same_end = λ n. rw (stands t arguments memory m r n, stands t arguments₁ memory₁ m r₁ n) (same_ends (code_of t) (stand_alike (code_of t) arguments arguments₁ memory memory₁ n));
    }

-- ---- ONE ANSWER: two answers that meet the contract of `run` are equal
pub one_answer : (t arguments memory : List ℕ) (limit : ℕ) (r r₁ : OrRefused Ran) (exit exit₁ : List ℕ)
    → record { answer = r; memory = exit } ≡ run t arguments memory limit → record { answer = r₁; memory = exit₁ } ≡ run t arguments memory limit
    → (r ≡ r₁) × (exit ≡ exit₁)
one_answer t arguments memory limit r r₁ exit exit₁ e e₁ = (ap (λ (x : Result). x.answer) (e ∙ sym e₁), ap (λ (x : Result). x.memory) (e ∙ sym e₁))
