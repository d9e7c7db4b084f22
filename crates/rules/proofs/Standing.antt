-- THE THEOREM: the machine over the tape of a sound core program stands, after every n counted steps up to its last, where 000's rules stand after n counted
-- reductions. Assumes nothing.
use mathlib.Core.Path.{◌≡◌, refl, sym, ap, ◌∙◌}
use mathlib.Core.List.{List, [], ◌∷◌}
use Prim.Native.Nat.{ℕ, zero, suc, ◌+◌, ◌-◌, ◌≤◌, ◌<◌}
use native.Mathlib.Nat.{not-suc-le-zero, zero-add, add-zero}
use native.Mathlib.Omega.{arith}
use native.Mathlib.Decide.{ℕ_discrete}
use lib.ListN.{length, get_or}
use Rattle.word.specs.Slots.{upd, fresh}
use Rattle.tape.specs.Core.{CFunc, CProgram}
use Rattle.tape.specs.Instruction.{Code, code_of}
use Rattle.tape.specs.Tape.{instructions}
use Rattle.tape.specs.Steps.{steps_exposed}
use Rattle.tape.specs.Entries.{Entry, entries_of, entry_at, exposed}
use Rattle.tape.specs.Check.{check}
use Rattle.tape.specs.Rules.{World, Machine, at as machine, halted, tick, stored, back, stands}
use Rattle.tape.proofs.Meaning.{CFun, cmeaning, cexposed, cnothing, cprogram}
use Rattle.tape.proofs.Sound.{SoundFrom, the_last, one_more, params_at, Sound}
use Rattle.tape.proofs.Settling.{stands_quiet, stands_here, stands_counting, stands_halted}
use Rattle.tape.proofs.Running.{opening, standing}
use Rattle.tape.proofs.Counted.{total_steps}
use Rattle.tape.proofs.Entering.{entry_of, entries_fs, nowhere, last_of, tape_lengths, tape_entries, tape_count, tape_params, tape_exposed}
use Rattle.tape.proofs.Accepted.{accepted_is_program}
use Rattle.tape.proofs.Follows.{sound_some}
use Rattle.rules.specs.Configurations.{Subst, Local, empty, Term, val, Fval, Configuration, at, fval, fval_at, exposed_body}
use Rattle.rules.specs.Reduction.{Label, quiet, counts, Reduces, EXR-VAR, EXR-ARR-GET-EXPR, EXR-ARR-GET-VAL, EXR-UNOP-EXPR, EXR-UNOP-VAL, EXR-BINOP-L, EXR-BINOP-R, EXR-BINOP-VAL, EXR-SUBST-VAR, EXR-SUBST-NO-VAR, EXR-FN-EXPR, EXR-FN-CALL, EXR-SKIP-EXPR, EXR-SKIP-VAL, BODY, EXR-SEQ, EXR-SEQ-SKIP, EXR-DEF-EXPR, EXR-DEF-VAL, EXR-ASSIGN-EXPR, EXR-ASSIGN-VAL, EXR-ARR-ASSIGN-EXPR-L, EXR-ARR-ASSIGN-EXPR-R, EXR-ARR-ASSIGN-VAL, EXR-FOR, EXR-ADD-SUBST, EXR-FOR-BASE}
use Rattle.rules.specs.Correspondence.{Reaches, here, quietly, counting, Corresponds, done, due, counter_of, StandsAt, FollowsRules}
use Rattle.rules.proofs.Around.{nothing}
use Rattle.rules.proofs.Locked.{Lock, rest, rule, record_of, both, Serves, body_lock, serves_next, same_next}
use Rattle.std.specs.Prelude.{Ok}

-- ---- κ goes up by one at a counted rule, and stays at a quiet one
unfoldable size : Label → ℕ
size quiet = 0
size (counts a) = 1

same_κ : (k : ℕ) → k ≡ k + 0
same_κ k = omega arith

next_κ : (k : ℕ) → suc k ≡ k + 1
next_κ k = omega arith

module _ (lengths : List ℕ) (Λ : ℕ → Fval) where
  counted : {σ : Subst} {ℓ : Label} {w w' : World} {μ μ' : List Local} {e e' : Term} → Reduces lengths Λ σ ℓ w μ e w' μ' e' → w'.steps ≡ w.steps + size ℓ
  unfolding size tick stored
  counted r =
      elim r as (λ σ ℓ w μ e w' μ' e' r. w'.steps ≡ w.steps + size ℓ) (λ ℓ w μ σ s w' μ' σ' s' r. w'.steps ≡ w.steps + size ℓ) [
        | EXR-VAR q ↦ next_κ _
        | EXR-ARR-GET-EXPR (r → h) ↦ h
        | EXR-ARR-GET-VAL ↦ next_κ _
        | EXR-UNOP-EXPR (r → h) ↦ h
        | EXR-UNOP-VAL ↦ next_κ _
        | EXR-BINOP-L (r → h) ↦ h
        | EXR-BINOP-R (r → h) ↦ h
        | EXR-BINOP-VAL ↦ next_κ _
        | EXR-SUBST-VAR q ↦ next_κ _
        | EXR-SUBST-NO-VAR q ↦ same_κ _
        | EXR-FN-EXPR vs es (r → h) ↦ h
        | EXR-FN-CALL q ↦ next_κ _
        | EXR-SKIP-EXPR (r → h) ↦ h
        | EXR-SKIP-VAL ↦ same_κ _
        | BODY (r → h) ↦ h
        | EXR-SEQ (r → h) ↦ h
        | EXR-SEQ-SKIP ↦ same_κ _
        | EXR-DEF-EXPR (r → h) ↦ h
        | EXR-DEF-VAL ↦ next_κ _
        | EXR-ASSIGN-EXPR (r → h) ↦ h
        | EXR-ASSIGN-VAL ↦ next_κ _
        | EXR-ARR-ASSIGN-EXPR-L (r → h) ↦ h
        | EXR-ARR-ASSIGN-EXPR-R (r → h) ↦ h
        | EXR-ARR-ASSIGN-VAL ↦ next_κ _
        | EXR-FOR l ↦ next_κ _
        | EXR-ADD-SUBST q ↦ same_κ _
        | EXR-FOR-BASE q ↦ same_κ _
      ]

-- ---- lockstep to the end, cut after n counted steps
module _ (lengths : List ℕ) (Δ : ℕ → Entry) (Λ : ℕ → Fval) where
  record Stood (m : Machine) (c : Configuration) (n : ℕ) : Type 0 where
    place : Configuration
    reached : Reaches lengths Λ n c place
    counter : counter_of place ≡ counter_of c + n
    corresponds : Corresponds lengths Λ Δ (stands lengths Δ n m) place

  stood : {m m' : Machine} {c c' : Configuration} {v : ℕ} {w : World} → Lock lengths Δ Λ m c m' c' → m' ≡ halted v w → c' ≡ at w [] (val v)
      → (n : ℕ) → counter_of c + n ≤ w.steps → Stood m c n
  unfolding counter_of size
  stood {v} {w} (rest {c}) e f n l =
      let k = ap counter_of f in
      let z : n ≡ 0 = omega arith in
      rw (e, f, z) (record { place = at w [] (val v); reached = here; counter = same_κ w.steps; corresponds = rw (stands_halted lengths Δ 0 v w) done })
  stood (rule r p) e f n l =
      let q = counted lengths Λ r in
      let s = stood p e f n (omega arith) in
      let k = s.counter in
      record { place = s.place; reached = quietly r s.reached; counter = omega arith; corresponds = s.corresponds }
  stood (record_of {m} h p) e f n l =
      let s = stood p e f n l in
      record { place = s.place; reached = s.reached; counter = s.counter; corresponds = rw (stands_quiet lengths Δ n m h) s.corresponds }
  stood (both {i} {k} {s} {τ} {L} {F} {w = v} {μ} {e = t} q h r p) e f zero l =
      record {
        place = at v μ t;
        reached = here;
        counter = same_κ v.steps;
        corresponds = rw (stands_here lengths Δ (machine (i ∷ k) s τ L F v) q) (due h r);
      }
  stood (both {i} {k} {s = o} {τ} {L} {F} {w = v} q h r p) e f (suc n) l =
      let d = counted lengths Λ r in
      let s = stood p e f n (omega arith) in
      let j = s.counter in
      record {
        place = s.place;
        reached = counting r s.reached;
        counter = omega arith;
        corresponds = rw (stands_counting lengths Δ n (machine (i ∷ k) o τ L F v) q) s.corresponds;
      }

-- ---- programs
-- of the last function: how many arguments it takes
unfoldable pub arity : List CFunc → ℕ
arity [] = 0
arity (f ∷ []) = f.params
arity (f ∷ g ∷ fs) = arity (g ∷ fs)

from_lock : (lengths : List ℕ) (Δ : ℕ → Entry) (Λ : ℕ → Fval) (π : ℕ → ℕ) → ((f : ℕ) → (Δ f).params ≡ π f) → {k : ℕ} (Φ : ℕ → CFun) → Serves lengths Δ Λ k Φ
    → {fs : List CFunc} → SoundFrom π k fs → ((i : ℕ) → Δ (k + i) ≡ get_or (entries_fs fs) i nowhere) → ((i : ℕ) → Λ (k + i) ≡ fval_at fs i)
    → (j : ℕ) → suc j ≡ k + length fs → (values : List ℕ) → length values ≡ arity fs → (w : World)
    → Lock lengths Δ Λ (machine (Δ j).code [] (fresh values) [] [] w) (at w (empty ∷ []) (exposed_body fs values))
    (halted (cexposed lengths Φ k fs values w).0 (cexposed lengths Φ k fs values w).1)
    (at (cexposed lengths Φ k fs values w).1 [] (val (cexposed lengths Φ k fs values w).0))
unfolding cexposed back cmeaning entries_fs fval_at exposed_body arity nothing
from_lock lengths Δ Λ π params Φ 𝓢 (the_last {k} {f} h) q r j e values n w =
    let i : j ≡ k + 0 = omega arith in
    rw (i, q 0) (body_lock lengths Δ Λ π params k Φ 𝓢 f h [] values n (nothing lengths Λ) [] w [])
from_lock lengths Δ Λ π params Φ 𝓢 (one_more {k} {f} {g} {fs} h s) q r j e values n w =
    let d : Δ k ≡ entry_of f (g ∷ fs) = ap Δ (sym (add-zero k)) ∙ q 0 in
    let l : Λ k ≡ fval f = ap Λ (sym (add-zero k)) ∙ r 0 in
    from_lock lengths Δ Λ π params (upd Φ k (cmeaning lengths Φ f))
    (record {
      same = λ i b. same_next lengths Δ Λ π params k Φ 𝓢 f (g ∷ fs) d l i b (ℕ_discrete i k);
      serves = λ i b. serves_next lengths Δ Λ π params k Φ 𝓢 f h (g ∷ fs) d l i b (ℕ_discrete i k);
    })
    s (λ i. ap Δ (next k i) ∙ q (suc i)) (λ i. ap Λ (next k i) ∙ r (suc i)) j (omega arith) values n w
  where
    next : (a b : ℕ) → suc a + b ≡ a + suc b
    next a b = omega arith

pub sound_stands : (p : CProgram) → Sound p → (values memory : List ℕ) → length values ≡ arity p.funcs → (n : ℕ) → n ≤ steps_exposed p
    → StandsAt p (entry_at (instructions p)) values memory n (standing (instructions p) values memory n)
unfolding cprogram counter_of
sound_stands p h values memory fit n l =
    let some = sound_some h in
    let count = tape_count p in
    let j : ℕ = length (entries_of (instructions p)) - 1 in
    let none : Serves p.arrays Δ Λ 0 cnothing = record { same = λ f b. absurd (not-suc-le-zero b); serves = λ f b. absurd (not-suc-le-zero b) } in
    let lock = from_lock p.arrays Δ Λ (params_at p.funcs) (tape_params p) cnothing none h entry (λ i. ap Λ (zero-add i)) j (omega arith) values fit (opening memory) in
    let total = total_steps p values memory in
    let s = stood p.arrays Δ Λ lock refl refl n (omega arith) in
    record { configuration = s.place; reached = s.reached; counter = s.counter ∙ zero-add n; corresponds = rw tape_lengths s.corresponds }
  where
    Δ : ℕ → Entry
    Δ = entry_at (instructions p)

    Λ : ℕ → Fval
    Λ = fval_at p.funcs

    entry : (i : ℕ) → Δ (0 + i) ≡ get_or (entries_fs p.funcs) i nowhere
    entry i = ap Δ (zero-add i) ∙ ap (λ (es : List Entry). get_or es i nowhere) (tape_entries p)

-- ---- accepted tapes
arity_last : (f : CFunc) (fs : List CFunc) → arity (f ∷ fs) ≡ (last_of f fs).params
unfolding arity last_of
arity_last f [] = refl
arity_last f (g ∷ fs) = arity_last g fs

exposed_arity : (p : CProgram) → Sound p → (exposed (instructions p)).params ≡ arity p.funcs
unfolding entry_of
exposed_arity p h = by p.funcs refl (sound_some h)
  where
    by : (fs : List CFunc) → p.funcs ≡ fs → 0 < length fs → (exposed (instructions p)).params ≡ arity fs
    by [] e l = absurd (omega arith)
    by (f ∷ fs) e l = ap (λ (x : Entry). x.params) (tape_exposed p f fs e) ∙ sym (arity_last f fs)

pub accepted_stands : (t : List ℕ) (m : ℕ) → check t ≡ Ok m → (values memory : List ℕ) → length values ≡ (exposed (code_of t)).params → (n : ℕ) → n ≤ m
    → FollowsRules t values memory n (standing (code_of t) values memory n)
accepted_stands t m e values memory fit n l =
    let q = accepted_is_program t m e in
    let p = q.program in
    let takes : length values ≡ arity p.funcs = fit ∙ ap (λ (c : Code). (exposed c).params) q.is ∙ exposed_arity p q.sound in
    let k = q.steps in
    record { program_of = p; is = q.words_are; stands = rw q.is (sound_stands p q.sound values memory takes n (omega arith)) }
