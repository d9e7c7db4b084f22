-- How a core expression computes: a judgement, and a rule for each form. Assumes nothing.
use mathlib.Core.Path.{◌≡◌, refl, ap, ap₂, ◌∙◌}
use mathlib.Core.List.{List, [], ◌∷◌}
use Prim.Native.Nat.{ℕ}
use Rattle.word.specs.Value.{Op, op, flip}
use Rattle.word.specs.Slots.{Slots}
use Rattle.word.specs.Bytes.{fetch}
use Rattle.tape.specs.Core.{CExpr, LIT, VAR, GET, NOT, BIN, CExprs, NONE, MORE}
use Rattle.tape.specs.Rules.{World, tick}
use Rattle.tape.proofs.Meaning.{CFun, cvalue, cvalues}

module _ (lengths : List ℕ) (Ψ : ℕ → CFun) (τ : Slots) where
  -- from slots τ and bytes m, whatever the count, e gives v and leaves bytes m'
  pub record Yields (e : CExpr) (m : List ℕ) (v : ℕ) (m' : List ℕ) : Type 0 where
    pub value : (w : World) → w.bytes ≡ m → (cvalue lengths Ψ e τ w).0 ≡ v
    pub bytes : (w : World) → w.bytes ≡ m → (cvalue lengths Ψ e τ w).1.bytes ≡ m'

  pub record YieldsAll (es : CExprs) (m : List ℕ) (vs : List ℕ) (m' : List ℕ) : Type 0 where
    pub values : (w : World) → w.bytes ≡ m → (cvalues lengths Ψ es τ w).0 ≡ vs
    pub bytes : (w : World) → w.bytes ≡ m → (cvalues lengths Ψ es τ w).1.bytes ≡ m'

-- the rules
module _ {lengths : List ℕ} {Ψ : ℕ → CFun} {τ : Slots} where
  pub lit_yields : (n : ℕ) {m : List ℕ} → Yields lengths Ψ τ (LIT n) m n m
  unfolding cvalue
  lit_yields n = record { value = λ w h. refl; bytes = λ w h. h }

  pub var_yields : (x : ℕ) {m : List ℕ} → Yields lengths Ψ τ (VAR x) m (τ x) m
  unfolding cvalue tick
  var_yields x = record { value = λ w h. refl; bytes = λ w h. h }

  pub get_yields : (a : ℕ) {i : CExpr} {m m' : List ℕ} {v : ℕ} → Yields lengths Ψ τ i m v m' → Yields lengths Ψ τ (GET a i) m (fetch lengths m' a v) m'
  unfolding cvalue tick
  get_yields a y =
      record { value = λ w h. ap₂ (λ (b : List ℕ) (j : ℕ). fetch lengths b a j) (y.bytes w h) (y.value w h); bytes = y.bytes }

  pub not_yields : {e : CExpr} {m m' : List ℕ} {v : ℕ} → Yields lengths Ψ τ e m v m' → Yields lengths Ψ τ (NOT e) m (flip v) m'
  unfolding cvalue tick
  not_yields y = record { value = λ w h. ap flip (y.value w h); bytes = y.bytes }

  pub bin_yields : (o : Op) {a b : CExpr} {m m₁ m₂ : List ℕ} {u v : ℕ} → Yields lengths Ψ τ a m u m₁ → Yields lengths Ψ τ b m₁ v m₂ → Yields lengths Ψ τ (BIN o a b) m (op o u v) m₂
  unfolding cvalue tick
  bin_yields o {a} p q =
      record {
        value = λ w h. ap₂ (op o) (p.value w h) (q.value (cvalue lengths Ψ a τ w).1 (p.bytes w h));
        bytes = λ w h. q.bytes (cvalue lengths Ψ a τ w).1 (p.bytes w h);
      }

  pub none_yields : {m : List ℕ} → YieldsAll lengths Ψ τ NONE m [] m
  unfolding cvalue
  none_yields = record { values = λ w h. refl; bytes = λ w h. h }

  pub more_yields : {e : CExpr} {es : CExprs} {m m₁ m₂ : List ℕ} {v : ℕ} {vs : List ℕ}
      → Yields lengths Ψ τ e m v m₁ → YieldsAll lengths Ψ τ es m₁ vs m₂ → YieldsAll lengths Ψ τ (MORE e es) m (v ∷ vs) m₂
  unfolding cvalue
  more_yields {e} p q =
      record {
        values = λ w h. ap₂ (λ (x : ℕ) (xs : List ℕ). x ∷ xs) (p.value w h) (q.values (cvalue lengths Ψ e τ w).1 (p.bytes w h));
        bytes = λ w h. q.bytes (cvalue lengths Ψ e τ w).1 (p.bytes w h);
      }

  -- the same, from another value that is equal
  pub yields_as : {e : CExpr} {m m' : List ℕ} {u v : ℕ} → u ≡ v → Yields lengths Ψ τ e m u m' → Yields lengths Ψ τ e m v m'
  yields_as q y = record { value = λ w h. y.value w h ∙ q; bytes = y.bytes }

  pub ends_as : {e : CExpr} {m m₁ m₂ : List ℕ} {v : ℕ} → m₁ ≡ m₂ → Yields lengths Ψ τ e m v m₁ → Yields lengths Ψ τ e m v m₂
  ends_as q y = record { value = y.value; bytes = λ w h. y.bytes w h ∙ q }

  pub starts_as : {e : CExpr} {m m₁ m₂ : List ℕ} {v : ℕ} → m₁ ≡ m → Yields lengths Ψ τ e m v m₂ → Yields lengths Ψ τ e m₁ v m₂
  starts_as q y = record { value = λ w h. y.value w (h ∙ q); bytes = λ w h. y.bytes w (h ∙ q) }
