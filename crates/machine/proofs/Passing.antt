-- Past a loop, one record at a time. Assumes nothing.
use mathlib.Core.Path.{◌≡◌, refl, sym, ap, ◌∙◌}
use mathlib.Core.List.{List, ◌∷◌}
use Prim.Native.Nat.{ℕ, suc, ◌+◌, ◌-◌, ◌<◌, ◌≤◌}
use native.Mathlib.Numerals.{add-one}
use native.Mathlib.Omega.{arith}
use lib.ListN.{length, drop, length-drop, drop_of_length-le}
use Rattle.word.specs.Records.{records, record_at}
use Rattle.word.specs.declared.Record.{Record}
use Rattle.tape.specs.Instruction.{Code, end, read, code_of}
use Rattle.tape.specs.Rules.{past}
use Rattle.tape.proofs.Cases.{by_kind}
use Rattle.tape.proofs.Reading.{code_from, code_length}
use Rattle.machine.specs.Flat.{past_at}

pub past_other : (d : ℕ) (x : Record) (c : Code) → (x.kind ≡ 19 → ⊥) → (x.kind ≡ 20 → ⊥) → past d (read x ∷ c) ≡ past d c
unfolding past
past_other d x c a b =
    by_kind (λ i. past d (i ∷ c) ≡ past d c) x
    (record {
      on_program = λ e. refl;
      on_array = λ e. refl;
      on_cfunc = λ e. refl;
      on_lit = λ e. refl;
      on_var = λ e. refl;
      on_get = λ e. refl;
      on_not = λ e. refl;
      on_bin = λ e. refl;
      on_call = λ e. refl;
      on_def = λ e. refl;
      on_set = λ e. refl;
      on_put = λ e. refl;
      on_for = λ e. absurd (a e);
      on_end = λ e. absurd (b e);
      on_ret = λ e. refl;
      on_other = refl;
    })

-- the code from record `at` on, of a tape: what stands there is passed, and the loops open in it are counted
module _ (t : List ℕ) (d at : ℕ) (h : at < records t) where
  pub past_straight : ((record_at t at).kind ≡ 19 → ⊥) → ((record_at t at).kind ≡ 20 → ⊥) → past d (drop at (code_of t)) ≡ past d (drop (at + 1) (code_of t))
  past_straight a b = rw (add-one at) (ap (past d) (code_from t at h) ∙ past_other d (record_at t at) _ a b)

  pub past_for : (record_at t at).kind ≡ 19 → past d (drop at (code_of t)) ≡ past (d + 1) (drop (at + 1) (code_of t))
  unfolding past read
  past_for e = rw (add-one at, add-one d, code_from t at h, e) refl

  pub past_inner : (record_at t at).kind ≡ 20 → 0 < d → past d (drop at (code_of t)) ≡ past (d - 1) (drop (at + 1) (code_of t))
  unfolding past read
  past_inner e l =
      let q : d ≡ suc (d - 1) = omega arith in
      rw (add-one at, code_from t at h, e) (ap (λ (n : ℕ). past n (end ∷ drop (suc at) (code_of t))) q)

  pub past_end : (record_at t at).kind ≡ 20 → d ≡ 0 → past d (drop at (code_of t)) ≡ drop (at + 1) (code_of t)
  unfolding past read
  past_end e z = rw (add-one at, code_from t at h, e, z) refl

-- where the code from record j on is what follows the loop
pub past_is : (t : List ℕ) (i j : ℕ) → j ≤ records t → drop j (code_of t) ≡ past 0 (drop (i + 1) (code_of t)) → j ≡ past_at t i
unfolding past_at
past_is t i j l e =
    let n = code_length t in
    let k : records t - length (drop j (code_of t)) ≡ j = omega (arith, length-drop j (code_of t)) in
    sym k ∙ ap (λ (c : Code). records t - length c) e

-- the tape has ended
pub past_none : (t : List ℕ) (i d at : ℕ) → records t ≤ at → past d (drop at (code_of t)) ≡ past 0 (drop (i + 1) (code_of t)) → records t ≡ past_at t i
unfolding past
past_none t i d at l e =
    let n = code_length t in
    let nothing = drop_of_length-le (code_of t) {i = at} (omega arith) in
    past_is t i (records t) (omega arith)
    (drop_of_length-le (code_of t) {i = records t} (omega arith) ∙ sym (ap (past d) nothing) ∙ e)
