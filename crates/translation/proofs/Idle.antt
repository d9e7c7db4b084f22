-- An idle state stays idle: in a branch that is not taken, and after a return, a translated statement keeps rval, rnset, the
-- bytes and what was visible before it. Assumes nothing.
use mathlib.Core.Path.{◌≡◌, refl, ap, ◌∙◌}
use mathlib.Core.Bool.{false}
use mathlib.Core.List.{List}
use Prim.Native.Nat.{ℕ, zero, suc, ◌+◌, ◌-◌, ◌^◌, ◌≤◌, ◌<◌}
use native.Mathlib.Omega.{arith}
use Rattle.word.specs.Value.{FALSE, and, or, op, flip}
use Rattle.word.specs.Types.{number, Val, is_number}
use Rattle.word.specs.Slots.{Slots, upd}
use Rattle.word.proofs.Laws.{word, flip_mask, and_true, and_false, false_and, false_or, merge_off}
use Rattle.word.proofs.Memory.{upd_id, Bytes, fetch_val, store_fetch}
use Rattle.script.specs.Tree.{Expr, Stmt, skip, seq, def, set, put, for, if, return, Stmts, done, next}
use Rattle.script.specs.Plain.{Fun, value}
use Rattle.script.proofs.Judged.{Context, hides, shows, ty_in, after_s, after_ss, Fine, Sound, Sounds}
use Rattle.script.proofs.Contexts.{Below, grows_refl, grows_trans, grows_upd, below_upd, Typed, after_grows, after_below}
use Rattle.script.proofs.Pure.{value_pure}
use Rattle.tape.specs.Core.{CExpr, VAR, NOT, BIN, SET}
use Rattle.tape.specs.Rules.{tick}
use Rattle.tape.proofs.Meaning.{State, CFun, assign, cpasses, crun}
use Rattle.translation.specs.Translate.{layout, EXT, masking, STT, STTs}
use Rattle.translation.proofs.Yields.{Yields, var_yields, get_yields, not_yields, bin_yields, yields_as, ends_as}
use Rattle.translation.proofs.Expressions.{Lower, right}
use Rattle.translation.proofs.Relation.{rval, rnset, condition, on, Off, untaken, ended, Kept, Framed, IdleAt, KeptBy, framed_low, framed_up, idle_deeper, idle_kept, kept_refl, kept_trans, kept_grows, kept_condition, kept_new}
use Rattle.translation.proofs.Masking.{by_assign, by_store, context_yields, masking_yields, merge_yields}
use Rattle.translation.proofs.Frame.{frame_low, frame_condition, frame_pass, frame}

-- what a statement does to an idle state
abbrev pub Rests : List ℕ → (ℕ → CFun) → ℕ → Stmt → Context → ℕ → Type 0
Rests lengths Ψ n s Γ d = (st : State) → IdleAt n Γ d st → KeptBy n Γ (after_s Γ s) st (crun lengths Ψ (STT (layout n) d s) st)

-- M is FALSE in an idle state, and rnset keeps its value
mask_off : {n d : ℕ} {τ : Slots} → Off n d τ → op and (on n d τ) (τ (rnset n)) ≡ FALSE
mask_off {n} {d} {τ} (untaken h) = ap (λ (c : ℕ). op and c (τ (rnset n))) h ∙ false_and (τ (rnset n))
mask_off {n} {d} {τ} (ended h) = ap (op and (on n d τ)) h ∙ and_false (on n d τ)

rnset_off : {n d : ℕ} {τ : Slots} → Off n d τ → τ (rnset n) < 2 ^ 32 → op and (τ (rnset n)) (flip (on n d τ)) ≡ τ (rnset n)
rnset_off {n} {d} {τ} (untaken h) w = ap (λ (c : ℕ). op and (τ (rnset n)) (flip c)) h ∙ ap (op and (τ (rnset n))) (flip_mask false) ∙ and_true w
rnset_off {n} {d} {τ} (ended h) w = rw h (false_and _)

module _ (lengths : List ℕ) (π : ℕ → ℕ) (k n : ℕ) {Φ : ℕ → Fun} {Ψ : ℕ → CFun} (𝓛 : Lower k Φ Ψ) where
  -- an expression in an idle state gives some value of its type, and stores nothing
  record Idly (Γ : Context) (τ : Slots) (b : List ℕ) (e : Expr) : Type 0 where
    result : ℕ
    typed : Val result (ty_in Γ e)
    yields : Yields lengths Ψ τ (EXT e) b result b

  idly : (e : Expr) {Γ : Context} {τ : Slots} {b : List ℕ} → Fine π k Γ e → Typed Γ τ → Bytes b → Idly Γ τ b e
  idly e {Γ} {τ} {b} h a q =
      let r = right lengths Φ Ψ Γ τ τ π k 𝓛 a e h q in
      record { result = (value lengths Φ e τ b).0; typed = r.typed; yields = ends_as (value_pure lengths Φ 𝓛.pure e τ b) r.yields }

  -- a slot that is set to what it has
  idle_same : (x : ℕ) (e : CExpr) {Γ : Context} {d : ℕ} (st : State) → IdleAt n Γ d st → Yields lengths Ψ st.slots e st.world.bytes (st.slots x) st.world.bytes
      → KeptBy n Γ Γ st (crun lengths Ψ (SET x e) st)
  idle_same x e {Γ} st i y =
      by_assign x e st y (Kept n Γ Γ st.slots st.world.bytes) (rw (upd_id st.slots x) (kept_refl i.typed))

  idle_def : (x : ℕ) (e : Expr) {Γ : Context} {d : ℕ} → x < n → Γ x ≡ hides → Fine π k Γ e → Rests lengths Ψ n (def x e) Γ d
  unfolding crun STT after_s
  idle_def x e {Γ} l h f st i =
      let r = idly e f i.typed i.all in
      by_assign x (EXT e) st r.yields (Kept n Γ (upd Γ x (shows (ty_in Γ e))) st.slots st.world.bytes)
      (kept_new l h r.typed i.typed refl)

  idle_set : (x : ℕ) (e : Expr) {Γ : Context} (d : ℕ) → Fine π k Γ e → Γ x ≡ shows (ty_in Γ e) → Rests lengths Ψ n (set x e) Γ d
  unfolding STT after_s
  idle_set x e d f h st i =
      let r = idly e f i.typed i.all in
      idle_same x _ st i
      (yields_as (merge_off r.result (word (i.typed.typed x _ h)))
      (merge_yields n d FALSE (mask_off i.off) r.yields (var_yields x)))

  idle_put : (a : ℕ) (j e : Expr) {Γ : Context} (d : ℕ) → Fine π k Γ j → Fine π k Γ e → Rests lengths Ψ n (put a j e) Γ d
  unfolding STT after_s
  idle_put a j e {Γ} d f g st i =
      let r = idly j f i.typed i.all in
      let s = idly e g i.typed i.all in
      let y = yields_as (merge_off s.result (word (fetch_val lengths i.all a r.result)))
      (merge_yields n d FALSE (mask_off i.off) s.yields (get_yields a r.yields)) in
      by_store a (EXT j) _ st r.yields y (Kept n Γ Γ st.slots st.world.bytes)
      (rw (store_fetch lengths i.all a r.result) (kept_refl i.typed))

  idle_return : (e : Expr) {Γ : Context} (d : ℕ) → Fine π k Γ e → Rests lengths Ψ n (return e) Γ d
  unfolding crun STT after_s
  idle_return e {Γ} d f st i =
      let r = idly e f i.typed i.all in
      let τ = st.slots in
      let E = BIN or (BIN and (EXT e) (masking (layout n) d)) (VAR (rval n)) in
      let st₁ = crun lengths Ψ (SET (rval n) E) st in
      let M = yields_as (mask_off i.off) (masking_yields n d) in
      let y = yields_as (ap (λ (v : ℕ). op or v (τ (rval n))) (and_false r.result) ∙ false_or (τ (rval n)))
      (bin_yields or (bin_yields and r.yields M) (var_yields (rval n))) in
      let k₁ : KeptBy n Γ Γ st st₁ = idle_same (rval n) E st i y in
      let i₁ : IdleAt n Γ d st₁ = idle_kept (frame_low lengths Ψ π k n d (rval n) E st (omega arith)) k₁ i in
      let z = yields_as (rnset_off i₁.off i₁.word)
      (bin_yields and (var_yields (rnset n)) (not_yields (context_yields n d))) in
      kept_trans grows_refl k₁ (idle_same (rnset n) _ st₁ i₁ z)

  -- a condition is set
  pub kept_set : (d : ℕ) (e : CExpr) {Γ : Context} {v : ℕ} → Below n Γ → (st : State) → Typed Γ st.slots
      → Yields lengths Ψ st.slots e st.world.bytes v st.world.bytes → KeptBy n Γ Γ st (crun lengths Ψ (SET (condition n d) e) st)
  kept_set d e {Γ} {v} l st a y =
      by_assign (condition n d) e st y (Kept n Γ Γ st.slots st.world.bytes) (kept_condition d v l a refl)

  idle_if : (c : Expr) (s t : Stmt) {Γ : Context} (d : ℕ) → Sound π k n Γ (if c s t) → Below n Γ
      → Rests lengths Ψ n s Γ (suc d) → Rests lengths Ψ n t Γ (suc d) → Rests lengths Ψ n (if c s t) Γ d
  unfolding crun STT Sound after_s
  idle_if c s t {Γ} d h l p q st i =
      let st₁ = crun lengths Ψ (SET (condition n d) (EXT c)) st in
      let st₂ = crun lengths Ψ (STT (layout n) (suc d) s) st₁ in
      let st₃ = crun lengths Ψ (SET (condition n d) (NOT (VAR (condition n d)))) st₂ in
      let k₁ : KeptBy n Γ Γ st st₁ = kept_set d (EXT c) l st i.typed (idly c h.0 i.typed i.all).yields in
      let i₁ : IdleAt n Γ d st₁ = idle_kept (frame_condition lengths Ψ π k n d (EXT c) st) k₁ i in
      let k₂ : KeptBy n Γ Γ st₁ st₂ = kept_grows grows_refl (after_grows π k n s h.2) (p st₁ (idle_deeper i₁)) in
      let i₂ : IdleAt n Γ d st₂ = idle_kept (framed_up (frame lengths Ψ π k n s h.2 l (suc d) st₁)) k₂ i₁ in
      let k₃ : KeptBy n Γ Γ st₂ st₃ = kept_set d _ l st₂ i₂.typed (not_yields (var_yields (condition n d))) in
      let i₃ : IdleAt n Γ d st₃ = idle_kept (frame_condition lengths Ψ π k n d _ st₂) k₃ i₂ in
      let k₄ = kept_grows grows_refl (after_grows π k n t h.3) (q st₃ (idle_deeper i₃)) in
      kept_trans grows_refl k₁ (kept_trans grows_refl k₂ (kept_trans grows_refl k₃ k₄))

  -- passes over an idle state
  pub idle_passes : {Γ : Context} {d : ℕ} (f : ℕ → State → State)
      → ((i : ℕ) (st : State) → Framed n d st.slots (f i st).slots)
      → ((i : ℕ) (st : State) → i < 2 ^ 32 → IdleAt n Γ d st → KeptBy n Γ Γ st (f i st))
      → (c i : ℕ) (st : State) → i + c ≤ 2 ^ 32 → IdleAt n Γ d st → KeptBy n Γ Γ st (cpasses f c i st)
  unfolding cpasses
  idle_passes f p q zero i st h a = kept_refl a.typed
  idle_passes f p q (suc c) i st h a =
      let k₁ = q i st (omega arith) a in
      kept_trans grows_refl k₁ (idle_passes f p q c (suc i) (f i st) (omega arith) (idle_kept (p i st) k₁ a))

  pub idle_pass : (x : ℕ) (s : Stmt) {Γ : Context} {d : ℕ} → x < n → Γ x ≡ hides → Sound π k n (upd Γ x (shows number)) s
      → Rests lengths Ψ n s (upd Γ x (shows number)) d
      → (i : ℕ) (st : State) → i < 2 ^ 32 → IdleAt n Γ d st → KeptBy n Γ Γ st (crun lengths Ψ (STT (layout n) d s) (assign st.slots x i st.world))
  unfolding assign tick
  idle_pass x s {Γ} {d} l h g p i st q a =
      let Γ₁ : Context = upd Γ x (shows number) in
      let st₁ = assign st.slots x i st.world in
      let k₁ : KeptBy n Γ Γ₁ st st₁ = kept_new l h (is_number q) a.typed refl in
      let k₂ = p st₁ (idle_kept (framed_low d st.slots i (omega arith)) k₁ a) in
      kept_grows grows_refl (grows_trans (grows_upd x number h) (after_grows π k n s g)) (kept_trans (grows_upd x number h) k₁ k₂)

  mutual
    unfolding crun STT Sound after_s

    pub idle : (s : Stmt) {Γ : Context} → Sound π k n Γ s → Below n Γ → (d : ℕ) → Rests lengths Ψ n s Γ d
    idle skip h l d st i = kept_refl i.typed
    idle (seq ss) h l d st i = idle_all ss h l d st i
    idle (def x e) h l d st i = idle_def x e h.0 h.1 h.2 st i
    idle (set x e) h l d st i = idle_set x e d h.0 h.1 st i
    idle (put a j e) h l d st i = idle_put a j e d h.0 h.2 st i
    idle (for x q r s) h l d st i =
        idle_passes _ (frame_pass lengths Ψ π k n x s h.0 h.4 l d)
        (idle_pass x s h.0 h.1 h.4 (idle s h.4 (below_upd number h.0 l) d)) (r - q) q st (omega (arith, h.2, h.3)) i
    idle (if c s t) h l d st i = idle_if c s t d h l (idle s h.2 l (suc d)) (idle t h.3 l (suc d)) st i
    idle (return e) h l d st i = idle_return e d h.0 st i

    pub idle_all : (ss : Stmts) {Γ : Context} → Sounds π k n Γ ss → Below n Γ → (d : ℕ) (st : State) → IdleAt n Γ d st → KeptBy n Γ (after_ss Γ ss) st (crun lengths Ψ (STTs (layout n) d ss) st)
    idle_all done h l d st i = kept_refl i.typed
    idle_all (next s ss) h l d st i =
        let k₁ = idle s h.0 l d st i in
        kept_trans (after_grows π k n s h.0) k₁
        (idle_all ss h.1 (after_below π k n s h.0 l) d _ (idle_kept (frame lengths Ψ π k n s h.0 l d st) k₁ i))
