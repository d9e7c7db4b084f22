-- 000's reduction rules, {Λ, Γ, μ, κ} e ⟶ {Λ, Γ', μ', κ'} e', each constructor under its rule's name; array declarations are left out (01). docs/RULES.md
-- has the repairs that 01 makes and the readings R1 to R8 that the rules need to run at all. Assumes nothing: these are definitions.
use Rattle.std.specs.Prelude.{ℕ, suc, ◌<◌, ◌≡◌, List, ◌∷◌, length}
use Rattle.std.proofs.Math.Option.{none, some}
use Rattle.word.specs.Value.{Op, op, flip}
use Rattle.word.specs.Slots.{upd}
use Rattle.word.specs.Bytes.{fetch}
use Rattle.tape.specs.Rules.{World, tick, stored}
use Rattle.rules.specs.Configurations.{Subst, Local, empty, bind, Term, val, var, bare, get, not, bin, call, body, Terms, nil, arg, Work, skip, seq, def, set, put, for, added, vals, Fval}

-- what a counted rule does, with its values: x read as v, an array read, `~`, an operation, a call, DEF, SET, PUT, a pass of x. RET's is the
-- reading of its slot
pub data Deed : Type 0 where
  reads : ℕ → ℕ → Deed
  gets : ℕ → ℕ → ℕ → Deed
  flips : ℕ → Deed
  bins : Op → ℕ → ℕ → Deed
  calls : ℕ → List ℕ → Deed
  defs sets : ℕ → ℕ → Deed
  puts : ℕ → ℕ → ℕ → Deed
  passes : ℕ → ℕ → Deed

-- a rule that leaves κ, and one that counts
pub data Label : Type 0 where
  quiet : Label
  counts : Deed → Label

-- `Reduces σ ℓ w μ e w' μ' e'`: {σ} e goes to {σ} e' (R1); `ReducesS ℓ w μ σ s w' μ' σ' s'`: {σ} s @ e₀ goes to {σ'} s' @ e₀, whatever e₀ is (R2)
module _ (lengths : List ℕ) (Λ : ℕ → Fval) where
  mutual
    pub data Reduces : Subst → Label → World → List Local → Term → World → List Local → Term → Type 0 where
      EXR-VAR : {σ : Subst} {w : World} {m : Local} {μ : List Local} {x v : ℕ} → m x ≡ some v
          → Reduces σ (counts (reads x v)) w (m ∷ μ) (bare x) (tick w) (m ∷ μ) (val v)
      EXR-ARR-GET-EXPR : {σ : Subst} {ℓ : Label} {w w' : World} {μ μ' : List Local} {e e' : Term} {a : ℕ}
          → Reduces σ ℓ w μ e w' μ' e' → Reduces σ ℓ w μ (get a e) w' μ' (get a e')
      EXR-ARR-GET-VAL : {σ : Subst} {w : World} {μ : List Local} {a i : ℕ}
          → Reduces σ (counts (gets a i (fetch lengths w.bytes a i))) w μ (get a (val i)) (tick w) μ (val (fetch lengths w.bytes a i))
      EXR-UNOP-EXPR : {σ : Subst} {ℓ : Label} {w w' : World} {μ μ' : List Local} {e e' : Term}
          → Reduces σ ℓ w μ e w' μ' e' → Reduces σ ℓ w μ (not e) w' μ' (not e')
      EXR-UNOP-VAL : {σ : Subst} {w : World} {μ : List Local} {v : ℕ} → Reduces σ (counts (flips v)) w μ (not (val v)) (tick w) μ (val (flip v))
      EXR-BINOP-L : {σ : Subst} {ℓ : Label} {w w' : World} {μ μ' : List Local} {o : Op} {e₁ e₁' e₂ : Term}
          → Reduces σ ℓ w μ e₁ w' μ' e₁' → Reduces σ ℓ w μ (bin o e₁ e₂) w' μ' (bin o e₁' e₂)
      EXR-BINOP-R : {σ : Subst} {ℓ : Label} {w w' : World} {μ μ' : List Local} {o : Op} {v : ℕ} {e₂ e₂' : Term}
          → Reduces σ ℓ w μ e₂ w' μ' e₂' → Reduces σ ℓ w μ (bin o (val v) e₂) w' μ' (bin o (val v) e₂')
      EXR-BINOP-VAL : {σ : Subst} {w : World} {μ : List Local} {o : Op} {u v : ℕ}
          → Reduces σ (counts (bins o u v)) w μ (bin o (val u) (val v)) (tick w) μ (val (op o u v))
      EXR-SUBST-VAR : {σ : Subst} {w : World} {μ : List Local} {x v : ℕ} → σ x ≡ some v
          → Reduces σ (counts (reads x v)) w μ (var x) (tick w) μ (val v)
      EXR-SUBST-NO-VAR : {σ : Subst} {w : World} {μ : List Local} {x : ℕ} → σ x ≡ none → Reduces σ quiet w μ (var x) w μ (bare x)
      EXR-FN-EXPR : {σ : Subst} {ℓ : Label} {w w' : World} {μ μ' : List Local} {f : ℕ} (vs : List ℕ) {e e' : Term} (es : Terms)
          → Reduces σ ℓ w μ e w' μ' e' → Reduces σ ℓ w μ (call f (vals vs (arg e es))) w' μ' (call f (vals vs (arg e' es)))
      EXR-FN-CALL : {σ : Subst} {w : World} {μ : List Local} {f : ℕ} {vs : List ℕ} → length vs ≡ (Λ f).params
          → Reduces σ (counts (calls f vs)) w μ (call f (vals vs nil)) (tick w) (empty ∷ μ) (body (bind vs) (Λ f).stmt (Λ f).result)
      EXR-SKIP-EXPR : {ρ σ : Subst} {ℓ : Label} {w w' : World} {μ μ' : List Local} {e e' : Term}
          → Reduces σ ℓ w μ e w' μ' e' → Reduces ρ ℓ w μ (body σ skip e) w' μ' (body σ skip e')
      EXR-SKIP-VAL : {ρ σ : Subst} {w : World} {m : Local} {μ : List Local} {v : ℕ} → Reduces ρ quiet w (m ∷ μ) (body σ skip (val v)) w μ (val v)
      -- the rules of statements, below, behind any e₀
      BODY : {ρ σ σ' : Subst} {ℓ : Label} {w w' : World} {μ μ' : List Local} {s s' : Work} {e₀ : Term}
          → ReducesS ℓ w μ σ s w' μ' σ' s' → Reduces ρ ℓ w μ (body σ s e₀) w' μ' (body σ' s' e₀)

    pub data ReducesS : Label → World → List Local → Subst → Work → World → List Local → Subst → Work → Type 0 where
      EXR-SEQ : {ℓ : Label} {w w' : World} {μ μ' : List Local} {σ σ' : Subst} {s₁ s₁' s₂ : Work}
          → ReducesS ℓ w μ σ s₁ w' μ' σ' s₁' → ReducesS ℓ w μ σ (seq s₁ s₂) w' μ' σ' (seq s₁' s₂)
      EXR-SEQ-SKIP : {w : World} {μ : List Local} {σ : Subst} {s : Work} → ReducesS quiet w μ σ (seq skip s) w μ σ s
      EXR-DEF-EXPR : {ℓ : Label} {w w' : World} {μ μ' : List Local} {σ : Subst} {x : ℕ} {e e' : Term}
          → Reduces σ ℓ w μ e w' μ' e' → ReducesS ℓ w μ σ (def x e) w' μ' σ (def x e')
      EXR-DEF-VAL : {w : World} {m : Local} {μ : List Local} {σ : Subst} {x v : ℕ}
          → ReducesS (counts (defs x v)) w (m ∷ μ) σ (def x (val v)) (tick w) (upd m x (some v) ∷ μ) σ skip
      EXR-ASSIGN-EXPR : {ℓ : Label} {w w' : World} {μ μ' : List Local} {σ : Subst} {x : ℕ} {e e' : Term}
          → Reduces σ ℓ w μ e w' μ' e' → ReducesS ℓ w μ σ (set x e) w' μ' σ (set x e')
      EXR-ASSIGN-VAL : {w : World} {m : Local} {μ : List Local} {σ : Subst} {x v : ℕ}
          → ReducesS (counts (sets x v)) w (m ∷ μ) σ (set x (val v)) (tick w) (upd m x (some v) ∷ μ) σ skip
      EXR-ARR-ASSIGN-EXPR-L : {ℓ : Label} {w w' : World} {μ μ' : List Local} {σ : Subst} {a : ℕ} {e₁ e₁' e₂ : Term}
          → Reduces σ ℓ w μ e₁ w' μ' e₁' → ReducesS ℓ w μ σ (put a e₁ e₂) w' μ' σ (put a e₁' e₂)
      EXR-ARR-ASSIGN-EXPR-R : {ℓ : Label} {w w' : World} {μ μ' : List Local} {σ : Subst} {a v : ℕ} {e₂ e₂' : Term}
          → Reduces σ ℓ w μ e₂ w' μ' e₂' → ReducesS ℓ w μ σ (put a (val v) e₂) w' μ' σ (put a (val v) e₂')
      EXR-ARR-ASSIGN-VAL : {w : World} {μ : List Local} {σ : Subst} {a i v : ℕ}
          → ReducesS (counts (puts a i v)) w μ σ (put a (val i) (val v)) (tick (stored lengths a i v w)) μ σ skip
      -- the x of the pass before is taken out of σ, here and at the loop's end (R6)
      EXR-FOR : {w : World} {μ : List Local} {σ : Subst} {x i r : ℕ} {s : Work} → i < r
          → ReducesS (counts (passes x i)) w μ σ (for x i r s) (tick w) μ (upd σ x none) (seq (added x i s) (for x (suc i) r s))
      EXR-ADD-SUBST : {w : World} {μ : List Local} {σ : Subst} {x v : ℕ} {s : Work} → σ x ≡ none
          → ReducesS quiet w μ σ (added x v s) w μ (upd σ x (some v)) s
      EXR-FOR-BASE : {w : World} {μ : List Local} {σ : Subst} {x i r : ℕ} {s : Work} → i ≡ r
          → ReducesS quiet w μ σ (for x i r s) w μ (upd σ x none) skip
