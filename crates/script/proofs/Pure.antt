-- An expression stores nothing, where no function that it may call does; nor does a statement without PUT. Assumes nothing.
use mathlib.Core.Path.{◌≡◌, refl, ◌∙◌}
use mathlib.Core.Bool.{Bool, true, false}
use mathlib.Core.List.{List}
use Prim.Native.Nat.{ℕ, zero, suc, ◌-◌}
use Rattle.word.specs.Value.{truth}
use Rattle.word.specs.Slots.{Slots, upd}
use Rattle.script.specs.Tree.{Expr, num, tru, fls, var, get, lnot, bnot, bin, call, Exprs, none, more, Stmt, skip, seq, def, set, put, for, if, return, Stmts, done, next}
use Rattle.script.specs.Plain.{Fun, Outcome, goes, returned, Step, onward, branch, passes, value, values, run, runs}
use Rattle.script.proofs.Judged.{NoPut, NoPuts}

-- the bytes that an outcome leaves
unfoldable pub bytes_of : Outcome → List ℕ
bytes_of (goes σ m) = m
bytes_of (returned v m) = m

onward_pure : (o : Outcome) (g : Step) {m : List ℕ} → bytes_of o ≡ m → ((σ : Slots) (m₁ : List ℕ) → bytes_of (g σ m₁) ≡ m₁) → bytes_of (onward o g) ≡ m
unfolding bytes_of onward
onward_pure (goes σ m₁) g h p = p σ m₁ ∙ h
onward_pure (returned v m₁) g h p = h

branch_pure : (b : Bool) (f g : Step) → ((σ : Slots) (m : List ℕ) → bytes_of (f σ m) ≡ m) → ((σ : Slots) (m : List ℕ) → bytes_of (g σ m) ≡ m)
    → (σ : Slots) (m : List ℕ) → bytes_of (branch b f g σ m) ≡ m
unfolding branch
branch_pure true f g p q = p
branch_pure false f g p q = q

passes_pure : (f : ℕ → Step) → ((i : ℕ) (σ : Slots) (m : List ℕ) → bytes_of (f i σ m) ≡ m) → (c i : ℕ) (σ : Slots) (m : List ℕ) → bytes_of (passes f c i σ m) ≡ m
unfolding bytes_of passes
passes_pure f p zero i σ m = refl
passes_pure f p (suc c) i σ m = onward_pure (f i σ m) (passes f c (suc i)) (p i σ m) (passes_pure f p c (suc i))

module _ (lengths : List ℕ) (Φ : ℕ → Fun) (𝓟 : (f : ℕ) (arguments m : List ℕ) → (Φ f arguments m).1 ≡ m) where
  mutual
    unfolding value

    pub value_pure : (e : Expr) (σ : Slots) (m : List ℕ) → (value lengths Φ e σ m).1 ≡ m
    value_pure (num v) σ m = refl
    value_pure tru σ m = refl
    value_pure fls σ m = refl
    value_pure (var x) σ m = refl
    value_pure (get a i) σ m = value_pure i σ m
    value_pure (lnot e) σ m = value_pure e σ m
    value_pure (bnot e) σ m = value_pure e σ m
    value_pure (bin o l r) σ m = value_pure r σ _ ∙ value_pure l σ m
    value_pure (call f es) σ m = 𝓟 f _ _ ∙ values_pure es σ m

    pub values_pure : (es : Exprs) (σ : Slots) (m : List ℕ) → (values lengths Φ es σ m).1 ≡ m
    values_pure none σ m = refl
    values_pure (more e es) σ m = values_pure es σ _ ∙ value_pure e σ m

  mutual
    unfolding run bytes_of NoPut

    pub run_pure : (s : Stmt) → NoPut s → (σ : Slots) (m : List ℕ) → bytes_of (run lengths Φ s σ m) ≡ m
    run_pure skip h σ m = refl
    run_pure (seq ss) h σ m = runs_pure ss h σ m
    run_pure (def x e) h σ m = value_pure e σ m
    run_pure (set x e) h σ m = value_pure e σ m
    run_pure (put a i e) h σ m = absurd h
    run_pure (for x q r s) h σ m = passes_pure _ (λ i σ₁ m₁. run_pure s h (upd σ₁ x i) m₁) (r - q) q σ m
    run_pure (if c s t) h σ m =
        branch_pure (truth (value lengths Φ c σ m).0) (run lengths Φ s) (run lengths Φ t) (run_pure s h.0) (run_pure t h.1) σ _ ∙ value_pure c σ m
    run_pure (return e) h σ m = value_pure e σ m

    pub runs_pure : (ss : Stmts) → NoPuts ss → (σ : Slots) (m : List ℕ) → bytes_of (runs lengths Φ ss σ m) ≡ m
    runs_pure done h σ m = refl
    runs_pure (next s ss) h σ m = onward_pure (run lengths Φ s σ m) (runs lengths Φ ss) (run_pure s h.0 σ m) (runs_pure ss h.1)
