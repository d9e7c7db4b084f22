-- The translation is correct: the core program that it makes of a sound script gives the value and the bytes that the script
-- means when read plainly. Assumes nothing.
use mathlib.Core.Path.{◌≡◌, refl, ◌∙◌}
use mathlib.Core.List.{List, [], ◌∷◌, map}
use Prim.Native.Nat.{ℕ, suc, ◌≤◌, ◌<◌}
use native.Mathlib.Nat.{not-suc-le-zero}
use native.Mathlib.Omega.{arith}
use native.Mathlib.Decide.{ℕ_discrete}
use lib.Dec.{lit<}
use Rattle.word.specs.Value.{TRUE, FALSE}
use Rattle.word.specs.Types.{is_number}
use Rattle.word.specs.Slots.{upd, fresh}
use Rattle.word.proofs.Memory.{upd_same, upd_other, Words, Bytes}
use Rattle.script.specs.Tree.{Func, Program}
use Rattle.script.specs.Plain.{Fun, Outcome, goes, returned, ending, meaning, exposed, nothing, plain}
use Rattle.script.proofs.Judged.{Context, beginning, NoPut, SoundFunc, SoundFrom, the_last, one_more, params_at, SoundProgram}
use Rattle.script.proofs.Contexts.{agree_aside, begin_agree, begin_below}
use Rattle.script.proofs.Pure.{bytes_of, run_pure}
use Rattle.tape.specs.Rules.{World, tick}
use Rattle.tape.proofs.Meaning.{State, CFun, assign, cvalue, crun, cmeaning, cexposed, cnothing, cprogram}
use Rattle.translation.specs.Translate.{FDEFT, translate}
use Rattle.translation.proofs.Expressions.{Same, Lower}
use Rattle.translation.proofs.Relation.{rval, rnset, on, Active, After, went, came}
use Rattle.translation.proofs.Active.{active}

-- ---- the state in which a function's body begins
begin_active : {arguments m : List ℕ} {b : List ℕ} (n p : ℕ) → p ≤ n → Words arguments → Bytes m → b ≡ m
    → Active n (beginning p) 0 (fresh arguments) m (upd (upd (fresh arguments) (rval n) FALSE) (rnset n) TRUE) b
unfolding on
begin_active {arguments} n p h ws bs q =
    let l = begin_below n p h in
    let τ = upd (fresh arguments) (rval n) FALSE in
    record {
      agree = agree_aside (rnset n) TRUE (omega arith) l (agree_aside (rval n) FALSE (omega arith) l (begin_agree p ws));
      context = refl;
      unset = upd_other τ (rnset n) TRUE (rval n) (omega arith) ∙ upd_same (fresh arguments) (rval n) FALSE;
      live = upd_same τ (rnset n) TRUE;
      bytes = q;
      all = bs;
    }

ending_pure : (o : Outcome) → (ending o).1 ≡ bytes_of o
unfolding ending bytes_of
ending_pure (goes σ m) = refl
ending_pure (returned v m) = refl

after_ending : {n : ℕ} {Γ : Context} {d : ℕ} (st : State) {o : Outcome} → After n Γ d st.slots st.world.bytes o → Same (st.slots (rval n), tick st.world) (ending o)
unfolding ending tick
after_ending st (went a) = record { value = a.unset; bytes = a.bytes; typed = is_number (lit< tt) }
after_ending st (came e) = record { value = e.value; bytes = e.bytes; typed = e.number }

-- ---- a function
module _ (lengths : List ℕ) (π : ℕ → ℕ) (k : ℕ) {Φ : ℕ → Fun} {Ψ : ℕ → CFun} (𝓛 : Lower k Φ Ψ) (f : Func) (h : SoundFunc π k f) where
  func_same : {arguments m : List ℕ} → Words arguments → Bytes m → (w : World) → w.bytes ≡ m
      → Same (cmeaning lengths Ψ (FDEFT f) arguments w) (meaning lengths Φ f arguments m)
  unfolding cmeaning meaning FDEFT crun assign tick cvalue
  func_same {arguments} {m} ws bs w q =
      let n = f.slots in
      let begins = begin_active n f.params h.room ws bs q in
      after_ending _ (active lengths π k n 𝓛 f.body h.body (begin_below n f.params h.room) 0 (fresh arguments) m _ begins)

  -- one function more below
  same_next : (g : ℕ) → g < suc k → Dec (g ≡ k) → {arguments m : List ℕ} → Words arguments → Bytes m → (w : World) → w.bytes ≡ m
      → Same (upd Ψ k (cmeaning lengths Ψ (FDEFT f)) g arguments w) (upd Φ k (meaning lengths Φ f) g arguments m)
  same_next g l (yes e) ws bs w q = rw (e, upd_same Ψ k, upd_same Φ k) (func_same ws bs w q)
  same_next g l (no d) ws bs w q = rw (upd_other Ψ k _ g d, upd_other Φ k _ g d) (𝓛.same g (omega arith) ws bs w q)

  module _ (u : NoPut f.body) where
    pure_next : (g : ℕ) (arguments m : List ℕ) → Dec (g ≡ k) → (upd Φ k (meaning lengths Φ f) g arguments m).1 ≡ m
    unfolding meaning
    pure_next g arguments m (yes e) =
        rw (e, upd_same Φ k) (ending_pure _ ∙ run_pure lengths Φ 𝓛.pure f.body u (fresh arguments) m)
    pure_next g arguments m (no d) = rw (upd_other Φ k _ g d) (𝓛.pure g arguments m)

    lower_next : Lower (suc k) (upd Φ k (meaning lengths Φ f)) (upd Ψ k (cmeaning lengths Ψ (FDEFT f)))
    lower_next =
        record {
          same = λ g l ws bs w q. same_next g l (ℕ_discrete g k) ws bs w q;
          pure = λ g arguments m. pure_next g arguments m (ℕ_discrete g k);
        }

lower_none : Lower 0 nothing cnothing
unfolding nothing
lower_none = record { same = λ f l ws bs w q. absurd (not-suc-le-zero l); pure = λ f arguments m. refl }

-- ---- programs
exposed_same : (lengths : List ℕ) (π : ℕ → ℕ) (k : ℕ) {Φ : ℕ → Fun} {Ψ : ℕ → CFun} → Lower k Φ Ψ → (fs : List Func) → SoundFrom π k fs
    → {arguments m : List ℕ} → Words arguments → Bytes m → (w : World) → w.bytes ≡ m
    → Same (cexposed lengths Ψ k (map FDEFT fs) arguments w) (exposed lengths Φ k fs arguments m)
unfolding exposed cexposed
exposed_same lengths π k 𝓛 [] x ws bs w q = elim x [ ]
exposed_same lengths π k 𝓛 (f ∷ []) (the_last h) ws bs w q = func_same lengths π k 𝓛 f h ws bs w q
exposed_same lengths π k 𝓛 (f ∷ g ∷ fs) (one_more h u r) ws bs w q =
    exposed_same lengths π (suc k) (lower_next lengths π k 𝓛 f h u) (g ∷ fs) r ws bs w q

-- THE THEOREM: the core program that the translation makes of a sound script gives, on words and bytes, the script's value and bytes
pub correct : (p : Program) → SoundProgram p → {arguments m : List ℕ} → Words arguments → Bytes m
    → (w : World) → w.bytes ≡ m → Same (cprogram (translate p) arguments w) (plain p arguments m)
unfolding plain cprogram translate
correct p h ws bs w q = exposed_same p.arrays (params_at p.funcs) 0 lower_none p.funcs h ws bs w q
