-- How the translation's masks compute, and an assignment or a store from what its expressions yield. Assumes nothing.
use mathlib.Core.Path.{◌≡◌, refl, sym, ap, subst, subst₂}
use mathlib.Core.List.{List}
use Prim.Native.Nat.{ℕ, zero, suc}
use Rattle.word.specs.Value.{TRUE, and, or, op, flip}
use Rattle.word.specs.Slots.{Slots, upd}
use Rattle.word.specs.Bytes.{store}
use Rattle.tape.specs.Core.{CExpr, SET, PUT}
use Rattle.tape.specs.Rules.{tick, stored}
use Rattle.tape.proofs.Meaning.{State, CFun, assign, cvalue, crun}
use Rattle.translation.specs.Translate.{layout, context, masking, merge}
use Rattle.translation.proofs.Yields.{Yields, lit_yields, var_yields, not_yields, bin_yields, yields_as}
use Rattle.translation.proofs.Relation.{rnset, condition, on}

module _ {lengths : List ℕ} {Ψ : ℕ → CFun} where
  -- an assignment, from what its expression yields
  pub by_assign : (x : ℕ) (e : CExpr) (st : State) {v : ℕ} {m : List ℕ} → Yields lengths Ψ st.slots e st.world.bytes v m
      → (P : Slots → List ℕ → Type 0) → P (upd st.slots x v) m
      → P (crun lengths Ψ (SET x e) st).slots (crun lengths Ψ (SET x e) st).world.bytes
  unfolding crun assign tick
  by_assign x e st y P p = subst₂ P (ap (upd st.slots x) (sym (y.value st.world refl))) (sym (y.bytes st.world refl)) p

  pub by_store : (a : ℕ) (i e : CExpr) (st : State) {j v : ℕ} {m m₁ : List ℕ} → Yields lengths Ψ st.slots i st.world.bytes j m → Yields lengths Ψ st.slots e m v m₁
      → (P : Slots → List ℕ → Type 0) → P st.slots (store lengths m₁ a j v)
      → P (crun lengths Ψ (PUT a i e) st).slots (crun lengths Ψ (PUT a i e) st).world.bytes
  unfolding crun stored tick
  by_store a i e st y z P p =
      let w₁ = (cvalue lengths Ψ i st.slots st.world).1 in
      let q = y.bytes st.world refl in
      subst (P st.slots) (sym (λ i. store lengths (z.bytes w₁ q i) a (y.value st.world refl i) (z.value w₁ q i))) p

  pub context_yields : (n d : ℕ) {τ : Slots} {m : List ℕ} → Yields lengths Ψ τ (context (layout n) d) m (on n d τ) m
  unfolding context on
  context_yields n zero = lit_yields TRUE
  context_yields n (suc d) = bin_yields and (var_yields (condition n d)) (context_yields n d)

  module _ (n d : ℕ) {τ : Slots} where
    -- M
    pub masking_yields : {m : List ℕ} → Yields lengths Ψ τ (masking (layout n) d) m (op and (on n d τ) (τ (rnset n))) m
    unfolding masking
    masking_yields = bin_yields and (context_yields n d) (var_yields (rnset n))

    -- a masked value, where M's value is w
    pub merge_yields : {e old : CExpr} {m m₁ : List ℕ} {v u : ℕ} (w : ℕ) → op and (on n d τ) (τ (rnset n)) ≡ w
        → Yields lengths Ψ τ e m v m₁ → Yields lengths Ψ τ old m₁ u m₁
        → Yields lengths Ψ τ (merge (layout n) d e old) m (op or (op and v w) (op and u (flip w))) m₁
    unfolding merge
    merge_yields w q y z =
        let M = yields_as q masking_yields in
        bin_yields or (bin_yields and y M) (bin_yields and z (not_yields M))
