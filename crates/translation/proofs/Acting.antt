-- An active state goes on as the plain run does, in the statements that have no statements for parts: DEF, SET, PUT, RETURN. Assumes nothing.
use mathlib.Core.Path.{◌≡◌, refl, ap, ap₂, ◌∙◌}
use mathlib.Core.Bool.{true}
use mathlib.Core.List.{List}
use Prim.Native.Nat.{ℕ, ◌<◌}
use native.Mathlib.Omega.{arith}
use lib.Dec.{lit<}
use Rattle.word.specs.Value.{TRUE, FALSE, and, or, op, flip}
use Rattle.word.specs.Types.{Ty, number, Val}
use Rattle.word.specs.Slots.{Slots, upd}
use Rattle.word.specs.Bytes.{store}
use Rattle.word.proofs.Laws.{word, flip_mask, and_true, and_false, or_false, merge_on}
use Rattle.word.proofs.Memory.{upd_same, upd_other, Bytes, store_bytes}
use Rattle.script.specs.Tree.{Expr, Stmt, def, set, put, return}
use Rattle.script.specs.Plain.{Fun, value, run}
use Rattle.script.proofs.Judged.{Context, shows, ty_in, after_s, Fine}
use Rattle.script.proofs.Contexts.{Below, Beside, beside_upd, beside_refl, Typed, typed_of, agree_upd, agree_aside}
use Rattle.script.proofs.Pure.{value_pure}
use Rattle.tape.specs.Core.{VAR, BIN, SET}
use Rattle.tape.proofs.Meaning.{State, CFun, crun}
use Rattle.translation.specs.Translate.{layout, EXT, masking, STT}
use Rattle.translation.proofs.Yields.{Yields, var_yields, get_yields, not_yields, bin_yields, yields_as, ends_as, starts_as}
use Rattle.translation.proofs.Expressions.{Lower, Right, still, right}
use Rattle.translation.proofs.Relation.{rval, rnset, on, Active, Ended, went, came, ActiveAt, AfterAt, framed_low, on_framed}
use Rattle.translation.proofs.Masking.{by_assign, by_store, context_yields, masking_yields, merge_yields}

-- what a statement does to an active state
abbrev pub Acts : List ℕ → (ℕ → Fun) → (ℕ → CFun) → ℕ → Stmt → Context → ℕ → Slots → List ℕ → Type 0
Acts lengths Φ Ψ n s Γ d σ m =
    (st : State) → ActiveAt n Γ d σ m st → AfterAt n (after_s Γ s) d (crun lengths Ψ (STT (layout n) d s) st) (run lengths Φ s σ m)

-- M is TRUE in an active state
mask_on : {n : ℕ} {Γ : Context} {d : ℕ} {σ τ : Slots} {m b : List ℕ} → Active n Γ d σ m τ b → op and (on n d τ) (τ (rnset n)) ≡ TRUE
mask_on a = ap₂ (op and) a.context a.live ∙ and_true (lit< tt)

-- a visible slot changes in both, or becomes visible
pub active_upd : {n : ℕ} {Γ Γ' : Context} {x : ℕ} {t : Ty} {v d : ℕ} {σ τ : Slots} {m m₁ b : List ℕ}
    → Beside Γ Γ' x t → Val v t → x < n → Bytes m₁ → Active n Γ d σ m τ b → Active n Γ' d (upd σ x v) m₁ (upd τ x v) m₁
active_upd {n} {x} {v} {d} {τ} s p l q a =
    record {
      agree = agree_upd v s p a.agree;
      context = on_framed d (framed_low d τ v (omega arith)) ∙ a.context;
      unset = upd_other τ x v (rval n) (omega arith) ∙ a.unset;
      live = upd_other τ x v (rnset n) (omega arith) ∙ a.live;
      bytes = refl;
      all = q;
    }

module _ (lengths : List ℕ) (π : ℕ → ℕ) (k n : ℕ) {Φ : ℕ → Fun} {Ψ : ℕ → CFun} (𝓛 : Lower k Φ Ψ) where
  pub valued : (e : Expr) {Γ : Context} {d : ℕ} {σ : Slots} {m : List ℕ} → Fine π k Γ e → (st : State) → ActiveAt n Γ d σ m st → Right lengths Φ Ψ Γ σ st.slots e m
  valued e {Γ} {σ} f st a = right lengths Φ Ψ Γ σ st.slots π k 𝓛 a.agree e f a.all

  pub kept_bytes : (e : Expr) {Γ : Context} {d : ℕ} {σ : Slots} {m : List ℕ} (st : State) → ActiveAt n Γ d σ m st → Bytes (value lengths Φ e σ m).1
  kept_bytes e {Γ} {σ} st a = still lengths Φ Ψ Γ σ st.slots π k 𝓛 e a.all

  pub active_def : (x : ℕ) (e : Expr) {Γ : Context} {d : ℕ} {σ : Slots} {m : List ℕ} → x < n → Fine π k Γ e → Acts lengths Φ Ψ n (def x e) Γ d σ m
  unfolding crun STT run after_s
  active_def x e {Γ} {d} {σ} {m} l f st a =
      let r = valued e f st a in
      went (by_assign x (EXT e) st (starts_as a.bytes r.yields) (Active n (upd Γ x (shows (ty_in Γ e))) d (upd σ x (value lengths Φ e σ m).0) (value lengths Φ e σ m).1)
      (active_upd (beside_upd x (ty_in Γ e)) r.typed l (kept_bytes e st a) a))

  pub active_set : (x : ℕ) (e : Expr) {Γ : Context} (d : ℕ) {σ : Slots} {m : List ℕ} → Below n Γ → Fine π k Γ e → Γ x ≡ shows (ty_in Γ e) → Acts lengths Φ Ψ n (set x e) Γ d σ m
  unfolding STT run after_s
  active_set x e {Γ} d {σ} {m} l f h st a =
      let r = valued e f st a in
      let τ = st.slots in
      let y = yields_as (merge_on (τ x) (word r.typed))
      (merge_yields n d TRUE (mask_on a) r.yields (var_yields x)) in
      went (by_assign x _ st (starts_as a.bytes y) (Active n Γ d (upd σ x (value lengths Φ e σ m).0) (value lengths Φ e σ m).1)
      (active_upd (beside_refl h) r.typed (l.below x _ h) (kept_bytes e st a) a))

  pub active_put : (z : ℕ) (i e : Expr) {Γ : Context} (d : ℕ) {σ : Slots} {m : List ℕ} → Fine π k Γ i → Fine π k Γ e → Acts lengths Φ Ψ n (put z i e) Γ d σ m
  unfolding STT run after_s
  active_put z i e {Γ} d {σ} {m} f g st a =
      let τ = st.slots in
      let r = valued i f st a in
      let b₁ = kept_bytes i st a in
      let s = right lengths Φ Ψ Γ σ τ π k 𝓛 a.agree e g b₁ in
      let b₂ = still lengths Φ Ψ Γ σ τ π k 𝓛 e b₁ in
      let r₂ = right lengths Φ Ψ Γ σ τ π k 𝓛 a.agree i f b₂ in
      let m₁ = (value lengths Φ i σ m).1 in
      let m₃ = store lengths (value lengths Φ e σ m₁).1 z (value lengths Φ i σ m).0 (value lengths Φ e σ m₁).0 in
      let y = yields_as (merge_on _ (word s.typed))
      (merge_yields n d TRUE (mask_on a) s.yields (get_yields z (ends_as (value_pure lengths Φ 𝓛.pure i σ _) r₂.yields))) in
      went (by_store z (EXT i) _ st (starts_as a.bytes r.yields) y (Active n Γ d σ m₃)
      (record { agree = a.agree; context = a.context; unset = a.unset; live = a.live; bytes = refl; all = store_bytes lengths b₂ z _ _ }))

  pub active_return : (e : Expr) {Γ : Context} (d : ℕ) {σ : Slots} {m : List ℕ} → Below n Γ → Fine π k Γ e → ty_in Γ e ≡ number → Acts lengths Φ Ψ n (return e) Γ d σ m
  unfolding crun STT run after_s
  active_return e {Γ} d {σ} {m} l f q st a =
      let τ = st.slots in
      let r = valued e f st a in
      let v = (value lengths Φ e σ m).0 in
      let m₁ = (value lengths Φ e σ m).1 in
      let E = BIN or (BIN and (EXT e) (masking (layout n) d)) (VAR (rval n)) in
      let st₁ = crun lengths Ψ (SET (rval n) E) st in
      let M = yields_as (mask_on a) (masking_yields n d) in
      let y : Yields lengths Ψ τ E m v m₁ =
      yields_as (ap₂ (op or) (and_true (word r.typed)) a.unset ∙ or_false v)
      (bin_yields or (bin_yields and r.yields M) (var_yields (rval n))) in
      let half : Typed Γ st₁.slots × (st₁.slots (rval n) ≡ v) × (on n d st₁.slots ≡ TRUE) × (st₁.slots (rnset n) ≡ TRUE) × (st₁.world.bytes ≡ m₁) =
      by_assign (rval n) E st (starts_as a.bytes y)
      (λ (t : Slots) (b : List ℕ). Typed Γ t × (t (rval n) ≡ v) × (on n d t ≡ TRUE) × (t (rnset n) ≡ TRUE) × (b ≡ m₁)) (
        typed_of (agree_aside (rval n) v (omega arith) l a.agree),
        upd_same τ (rval n) v,
        on_framed d (framed_low d τ v (omega arith)) ∙ a.context,
        upd_other τ (rval n) v (rnset n) (omega arith) ∙ a.live,
        refl,
      ) in
      let τ₁ = st₁.slots in
      let z = yields_as (ap₂ (λ (x c : ℕ). op and x (flip c)) half.3 half.2 ∙ ap (op and TRUE) (flip_mask true) ∙ and_false TRUE)
      (bin_yields and (var_yields (rnset n)) (not_yields (context_yields n d))) in
      came (by_assign (rnset n) _ st₁ z (Ended n Γ v m₁)
      (record {
        typed = typed_of (agree_aside (rnset n) FALSE (omega arith) l half.0);
        value = upd_other τ₁ (rnset n) FALSE (rval n) (omega arith) ∙ half.1;
        number = rw q at r.typed;
        shut = upd_same τ₁ (rnset n) FALSE;
        bytes = half.4;
        all = kept_bytes e st a;
      }))
