-- An active state goes on as the plain run does, in an IF: one branch acts, the other rests. Assumes nothing.
use mathlib.Core.Path.{◌≡◌, refl, sym, ap, ap₂, ◌∙◌, subst}
use mathlib.Core.Bool.{Bool, true, false}
use mathlib.Core.List.{List}
use Prim.Native.Nat.{ℕ, suc, ◌^◌, ◌<◌}
use native.Mathlib.Omega.{arith}
use lib.Dec.{lit<}
use Rattle.word.specs.Value.{TRUE, FALSE, mask, truth, and, op, flip}
use Rattle.word.specs.Types.{boolean, Val, is_boolean}
use Rattle.word.specs.Slots.{Slots}
use Rattle.word.proofs.Laws.{truth_mask, flip_mask, and_true, false_and}
use Rattle.word.proofs.Memory.{upd_same, upd_other, Bytes}
use Rattle.script.specs.Tree.{Expr, Stmt, if}
use Rattle.script.specs.Plain.{Fun, Outcome, branch, value, run}
use Rattle.script.proofs.Judged.{Context, ty_in, after_s, Fine, Sound}
use Rattle.script.proofs.Contexts.{Below, grows_refl, Typed, typed_of, agree_aside, after_grows}
use Rattle.tape.specs.Core.{CStmt, VAR, NOT, ◌⨾◌, SET}
use Rattle.tape.proofs.Meaning.{State, CFun, crun}
use Rattle.translation.specs.Translate.{layout, EXT, STT}
use Rattle.translation.proofs.Yields.{var_yields, not_yields, yields_as, starts_as}
use Rattle.translation.proofs.Expressions.{Lower}
use Rattle.translation.proofs.Relation.{rval, rnset, condition, on, untaken, Active, After, went, came, Framed, ActiveAt, AfterAt, IdleAt, KeptBy, framed_condition, framed_up, framed_trans, on_framed, kept_trans, kept_grows, ended_kept, active_kept, outcome_grows}
use Rattle.translation.proofs.Frame.{frame_condition, frame}
use Rattle.translation.proofs.Masking.{by_assign}
use Rattle.translation.proofs.Idle.{kept_set, idle}
use Rattle.translation.proofs.Acting.{Acts, valued, kept_bytes}

-- the same at another depth, whose context is TRUE too
pub active_at : {n : ℕ} {Γ : Context} {d e : ℕ} {σ τ : Slots} {m b : List ℕ} → on n e τ ≡ TRUE → Active n Γ d σ m τ b → Active n Γ e σ m τ b
active_at h a = record { agree = a.agree; context = h; unset = a.unset; live = a.live; bytes = a.bytes; all = a.all }

after_at : {n : ℕ} {Γ : Context} {d e : ℕ} {τ : Slots} {b : List ℕ} {o : Outcome} → on n e τ ≡ TRUE → After n Γ d τ b o → After n Γ e τ b o
after_at h (went a) = went (active_at h a)
after_at h (came e) = came e

-- what follows an IF's first branch
abbrev otherwise : ℕ → ℕ → Stmt → CStmt
otherwise n d t = SET (condition n d) (NOT (VAR (condition n d))) ⨾ STT (layout n) (suc d) t

module _ (lengths : List ℕ) (π : ℕ → ℕ) (k n : ℕ) {Φ : ℕ → Fun} {Ψ : ℕ → CFun} (𝓛 : Lower k Φ Ψ) where
  -- the rest of an IF whose first branch was taken
  idle_rest : (t : Stmt) {Γ : Context} (d : ℕ) → Sound π k n Γ t → Below n Γ
      → (st : State) → Typed Γ st.slots → st.slots (rnset n) < 2 ^ 32 → Bytes st.world.bytes → st.slots (condition n d) ≡ TRUE
      → KeptBy n Γ Γ st (crun lengths Ψ (otherwise n d t) st)
  unfolding crun on
  idle_rest t {Γ} d h l st a w b q =
      let st₁ = crun lengths Ψ (SET (condition n d) (NOT (VAR (condition n d)))) st in
      let y = yields_as (ap flip q ∙ flip_mask true) (not_yields (var_yields (condition n d))) in
      let k₁ = kept_set lengths π k n 𝓛 d _ l st a y in
      let c : st₁.slots (condition n d) ≡ FALSE = by_assign (condition n d) _ st y (λ (τ : Slots) (b : List ℕ). τ (condition n d) ≡ FALSE) (upd_same st.slots (condition n d) FALSE) in
      let i₁ : IdleAt n Γ (suc d) st₁ =
      record {
        typed = k₁.typed;
        off = untaken (ap (λ (x : ℕ). op and x (on n d st₁.slots)) c ∙ false_and (on n d st₁.slots));
        word = rw k₁.set w;
        all = subst Bytes (sym k₁.bytes) b;
      } in
      kept_trans grows_refl k₁ (kept_grows grows_refl (after_grows π k n t h) (idle lengths π k n 𝓛 t h l (suc d) st₁ i₁))

  frame_rest : (t : Stmt) {Γ : Context} (d : ℕ) → Sound π k n Γ t → Below n Γ → (st : State)
      → Framed n d st.slots (crun lengths Ψ (otherwise n d t) st).slots
  unfolding crun
  frame_rest t d h l st = framed_trans (frame_condition lengths Ψ π k n d _ st) (framed_up (frame lengths Ψ π k n t h l (suc d) _))

  -- the first branch is taken
  taken : (t : Stmt) {Γ : Context} (d : ℕ) {o : Outcome} → Sound π k n Γ t → Below n Γ
      → (st : State) → st.slots (condition n d) ≡ TRUE → on n d st.slots ≡ TRUE → AfterAt n Γ (suc d) st o
      → AfterAt n Γ d (crun lengths Ψ (otherwise n d t) st) o
  taken t d h l st q c (went a) =
      let kept = idle_rest t d h l st (typed_of a.agree) (rw a.live (lit< tt)) (subst Bytes (sym a.bytes) a.all) q in
      went (active_kept (on_framed d (frame_rest t d h l st) ∙ c) a kept)
  taken t d h l st q c (came e) = came (ended_kept e (idle_rest t d h l st e.typed (rw e.shut (lit< tt)) (subst Bytes (sym e.bytes) e.all) q))

  -- the second branch is taken: the first has left an active state with the condition FALSE
  untaken_then : (t : Stmt) {Γ : Context} (d : ℕ) {σ : Slots} {m : List ℕ} → Sound π k n Γ t → Below n Γ
      → Acts lengths Φ Ψ n t Γ (suc d) σ m
      → (st : State) → st.slots (condition n d) ≡ FALSE → ActiveAt n Γ d σ m st
      → AfterAt n Γ d (crun lengths Ψ (otherwise n d t) st) (run lengths Φ t σ m)
  unfolding crun on
  untaken_then t {Γ} d {σ} {m} h l p st q a =
      let E = NOT (VAR (condition n d)) in
      let τ = st.slots in
      let st₁ = crun lengths Ψ (SET (condition n d) E) st in
      let y = yields_as (ap flip q ∙ flip_mask false) (not_yields (var_yields (condition n d))) in
      let c : st₁.slots (condition n d) ≡ TRUE = by_assign (condition n d) E st y (λ (t : Slots) (b : List ℕ). t (condition n d) ≡ TRUE) (upd_same τ (condition n d) TRUE) in
      let o : on n d st₁.slots ≡ TRUE = on_framed d (frame_condition lengths Ψ π k n d E st) ∙ a.context in
      let a₁ : ActiveAt n Γ (suc d) σ m st₁ = active_kept (ap₂ (op and) c o ∙ and_true (lit< tt)) a (kept_set lengths π k n 𝓛 d E l st (typed_of a.agree) y) in
      after_at (on_framed d (framed_up (frame lengths Ψ π k n t h l (suc d) st₁)) ∙ o) (outcome_grows (after_grows π k n t h) (p st₁ a₁))

  -- from the state after the condition's DEF
  active_branch : (b : Bool) (s t : Stmt) {Γ : Context} (d : ℕ) {σ : Slots} {m : List ℕ} → Sound π k n Γ s → Sound π k n Γ t → Below n Γ
      → Acts lengths Φ Ψ n s Γ (suc d) σ m
      → Acts lengths Φ Ψ n t Γ (suc d) σ m
      → (st : State) → st.slots (condition n d) ≡ mask b → ActiveAt n Γ d σ m st
      → AfterAt n Γ d (crun lengths Ψ (STT (layout n) (suc d) s ⨾ otherwise n d t) st) (branch b (run lengths Φ s) (run lengths Φ t) σ m)
  unfolding crun on branch
  active_branch true s t {Γ} d {σ} {m} h g l p q st c a =
      let f = frame lengths Ψ π k n s h l (suc d) st in
      let a₁ : ActiveAt n Γ (suc d) σ m st = active_at (ap₂ (op and) c a.context ∙ and_true (lit< tt)) a in
      taken t d g l (crun lengths Ψ (STT (layout n) (suc d) s) st) (f.conditions d (omega arith) ∙ c) (on_framed d (framed_up f) ∙ a.context)
      (outcome_grows (after_grows π k n s h) (p st a₁))
  active_branch false s t {Γ} d {σ} {m} h g l p q st c a =
      let f = frame lengths Ψ π k n s h l (suc d) st in
      let i : IdleAt n Γ (suc d) st =
      record {
        typed = typed_of a.agree;
        off = untaken (ap (λ (x : ℕ). op and x (on n d st.slots)) c ∙ false_and (on n d st.slots));
        word = rw a.live (lit< tt);
        all = subst Bytes (sym a.bytes) a.all;
      } in
      let k₁ = kept_grows grows_refl (after_grows π k n s h) (idle lengths π k n 𝓛 s h l (suc d) st i) in
      untaken_then t d g l q (crun lengths Ψ (STT (layout n) (suc d) s) st) (f.conditions d (omega arith) ∙ c) (active_kept (on_framed d (framed_up f) ∙ a.context) a k₁)

  boolean_of : {v : ℕ} → Val v boolean → (b : Bool) × (v ≡ mask b)
  boolean_of (is_boolean b e) = (b, e)

  pub active_if : (c : Expr) (s t : Stmt) {Γ : Context} (d : ℕ) {σ : Slots} {m : List ℕ} → Fine π k Γ c → ty_in Γ c ≡ boolean → Sound π k n Γ s → Sound π k n Γ t → Below n Γ
      → ((m₁ : List ℕ) → Acts lengths Φ Ψ n s Γ (suc d) σ m₁)
      → ((m₁ : List ℕ) → Acts lengths Φ Ψ n t Γ (suc d) σ m₁)
      → Acts lengths Φ Ψ n (if c s t) Γ d σ m
  unfolding crun STT run after_s
  active_if c s t {Γ} d {σ} {m} f u h g l p q st a =
      let r = valued lengths π k n 𝓛 c f st a in
      let τ = st.slots in
      let v = (value lengths Φ c σ m).0 in
      let m₁ = (value lengths Φ c σ m).1 in
      let y = starts_as a.bytes r.yields in
      let st₁ = crun lengths Ψ (SET (condition n d) (EXT c)) st in
      let e : st₁.slots (condition n d) ≡ v = by_assign (condition n d) (EXT c) st y (λ (t : Slots) (b : List ℕ). t (condition n d) ≡ v) (upd_same τ (condition n d) v) in
      let a₁ : ActiveAt n Γ d σ m₁ st₁ =
      by_assign (condition n d) (EXT c) st y (Active n Γ d σ m₁)
      (record {
        agree = agree_aside (condition n d) v (omega arith) l a.agree;
        context = on_framed d (framed_condition d τ v) ∙ a.context;
        unset = upd_other τ (condition n d) v (rval n) (omega arith) ∙ a.unset;
        live = upd_other τ (condition n d) v (rnset n) (omega arith) ∙ a.live;
        bytes = refl;
        all = kept_bytes lengths π k n 𝓛 c st a;
      }) in
      let B = boolean_of (rw u at r.typed) in
      subst (λ (b : Bool). AfterAt n Γ d (crun lengths Ψ (STT (layout n) d (if c s t)) st) (branch b (run lengths Φ s) (run lengths Φ t) σ m₁))
      (sym (ap truth B.1 ∙ truth_mask B.0))
      (active_branch B.0 s t d h g l (p m₁) (q m₁) st₁ (e ∙ B.1) a₁)
