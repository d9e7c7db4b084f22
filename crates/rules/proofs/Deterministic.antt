-- A reduction is the one that the function gives, so there is at most one; and the rules stand at one configuration only after n counted reductions.
-- Assumes nothing.
use mathlib.Core.Path.{◌≡◌, refl, sym, ap, ◌∙◌, subst}
use mathlib.Core.Bool.{Bool, false}
use mathlib.Core.List.{List, [], ◌∷◌}
use mathlib.Core.Option.{Option}
use Prim.Native.Nat.{ℕ}
use native.Mathlib.Nat.{le_of_eq}
use borrow.Author.Tests.{lt-ltb, le-ltb, eq-eqb}
use lib.Dec.{eqb}
use Rattle.tape.specs.Rules.{World}
use Rattle.rules.specs.Configurations.{Subst, Local, empty, Term, val, var, bare, get, not, bin, call, body, Terms, nil, arg, Work, skip, seq, def, set, put, for, added, vals, Fval, Configuration, at}
use Rattle.rules.specs.Reduction.{Deed, Label, quiet, counts, Reduces, EXR-VAR, EXR-ARR-GET-EXPR, EXR-ARR-GET-VAL, EXR-UNOP-EXPR, EXR-UNOP-VAL, EXR-BINOP-L, EXR-BINOP-R, EXR-BINOP-VAL, EXR-SUBST-VAR, EXR-SUBST-NO-VAR, EXR-FN-EXPR, EXR-FN-CALL, EXR-SKIP-EXPR, EXR-SKIP-VAL, BODY, EXR-SEQ, EXR-SEQ-SKIP, EXR-DEF-EXPR, EXR-DEF-VAL, EXR-ASSIGN-EXPR, EXR-ASSIGN-VAL, EXR-ARR-ASSIGN-EXPR-L, EXR-ARR-ASSIGN-EXPR-R, EXR-ARR-ASSIGN-VAL, EXR-FOR, EXR-ADD-SUBST, EXR-FOR-BASE}
use Rattle.rules.specs.Correspondence.{Reaches, here, quietly, counting}
use Rattle.rules.proofs.Next.{Next, NextS, NextArgs, ready, within, within_s, first, later, onward, in_body, by_val, by_skip, from_local, local, from_subst, enter, leave, write, pass, add, applied, next, next_args, next_s}

-- ---- what reduces is no value, and no skip
Moves : Next → Type 0
Moves Next.stop = ⊥
Moves (Next.to ℓ w μ e) = Unit {0}

MovesS : NextS → Type 0
MovesS NextS.stop = ⊥
MovesS (NextS.to ℓ w μ σ s) = Unit {0}

module _ (lengths : List ℕ) (Λ : ℕ → Fval) where
  no_val : {A : Type 0} (e : Term) (f : ℕ → A) (a : A) (σ : Subst) (w : World) (μ : List Local) {ℓ : Label} {w' : World} {μ' : List Local} {e' : Term}
      → next lengths Λ e σ w μ ≡ Next.to ℓ w' μ' e' → by_val e f a ≡ a
  unfolding by_val next Moves
  no_val (val v) f a σ w μ q = absurd (subst Moves (sym q) tt)
  no_val (var x) f a σ w μ q = refl
  no_val (bare x) f a σ w μ q = refl
  no_val (get z e) f a σ w μ q = refl
  no_val (not e) f a σ w μ q = refl
  no_val (bin o d e) f a σ w μ q = refl
  no_val (call g es) f a σ w μ q = refl
  no_val (body ρ s e) f a σ w μ q = refl

  no_skip : {A : Type 0} (s : Work) (b a : A) (σ : Subst) (w : World) (μ : List Local) {σ' : Subst} {ℓ : Label} {w' : World} {μ' : List Local} {s' : Work}
      → next_s lengths Λ s σ w μ ≡ NextS.to ℓ w' μ' σ' s' → by_skip s b a ≡ a
  unfolding by_skip next MovesS
  no_skip skip b a σ w μ q = absurd (subst MovesS (sym q) tt)
  no_skip (seq s t) b a σ w μ q = refl
  no_skip (def x e) b a σ w μ q = refl
  no_skip (set x e) b a σ w μ q = refl
  no_skip (put z i e) b a σ w μ q = refl
  no_skip (for x i r s) b a σ w μ q = refl
  no_skip (added x v s) b a σ w μ q = refl

  args_move : (vs : List ℕ) (e : Term) (es : Terms) (σ : Subst) (w : World) (μ : List Local) {ℓ : Label} {w' : World} {μ' : List Local} {e' : Term}
      → next lengths Λ e σ w μ ≡ Next.to ℓ w' μ' e' → next_args lengths Λ (vals vs (arg e es)) σ w μ ≡ NextArgs.to ℓ w' μ' (vals vs (arg e' es))
  unfolding next vals by_val first later
  args_move [] e es σ w μ q = no_val e _ _ σ w μ q ∙ ap (first es) q
  args_move (v ∷ vs) e es σ w μ q = ap (later v) (args_move vs e es σ w μ q)

  args_ready : (vs : List ℕ) (σ : Subst) (w : World) (μ : List Local) → next_args lengths Λ (vals vs nil) σ w μ ≡ ready vs
  unfolding next vals by_val later
  args_ready [] σ w μ = refl
  args_ready (v ∷ vs) σ w μ = ap (later v) (args_ready vs σ w μ)

  -- ---- from the relation to the function
  pub given : {σ : Subst} {ℓ : Label} {w w' : World} {μ μ' : List Local} {e e' : Term} → Reduces lengths Λ σ ℓ w μ e w' μ' e' → next lengths Λ e σ w μ ≡ Next.to ℓ w' μ' e'
  unfolding next next_s within within_s onward in_body by_val by_skip from_local local from_subst enter leave write pass add applied
  given r =
      elim r as (λ σ ℓ w μ e w' μ' e' r. next lengths Λ e σ w μ ≡ Next.to ℓ w' μ' e') (λ ℓ w μ σ s w' μ' σ' s' r. next_s lengths Λ s σ w μ ≡ NextS.to ℓ w' μ' σ' s') [
        | EXR-VAR {w} {m} {μ} {x} q ↦ ap (λ (o : Option ℕ). from_local o x w (m ∷ μ)) q
        | EXR-ARR-GET-EXPR {e} {a} (r → h) ↦ no_val e _ _ _ _ _ h ∙ ap (within (get a)) h
        | EXR-ARR-GET-VAL ↦ refl
        | EXR-UNOP-EXPR {e} (r → h) ↦ no_val e _ _ _ _ _ h ∙ ap (within not) h
        | EXR-UNOP-VAL ↦ refl
        | EXR-BINOP-L {o} {e₁} {e₂} (r → h) ↦ no_val e₁ _ _ _ _ _ h ∙ ap (within (λ (x : Term). bin o x e₂)) h
        | EXR-BINOP-R {o} {v} {e₂} (r → h) ↦ no_val e₂ _ _ _ _ _ h ∙ ap (within (bin o (val v))) h
        | EXR-BINOP-VAL ↦ refl
        | EXR-SUBST-VAR {w} {μ} {x} q ↦ ap (λ (o : Option ℕ). from_subst o x w μ) q
        | EXR-SUBST-NO-VAR {w} {μ} {x} q ↦ ap (λ (o : Option ℕ). from_subst o x w μ) q
        | EXR-FN-EXPR {w} {μ} {f} vs {e} es (r → h) ↦ ap (applied lengths Λ f w μ) (args_move vs e es _ _ _ h)
        | EXR-FN-CALL {w} {μ} {f} {vs} q ↦ ap (applied lengths Λ f w μ) (args_ready vs _ _ _) ∙ ap (λ (b : Bool). enter b f (Λ f) vs w μ) (eq-eqb _ _ q)
        | EXR-SKIP-EXPR {σ} {e} (r → h) ↦ no_val e _ _ _ _ _ h ∙ ap (within (body σ skip)) h
        | EXR-SKIP-VAL ↦ refl
        | BODY {s} {e₀} (r → h) ↦ no_skip s _ _ _ _ _ h ∙ ap (in_body e₀) h
        | EXR-SEQ {s₁} {s₂} (r → h) ↦ no_skip s₁ _ _ _ _ _ h ∙ ap (onward s₂) h
        | EXR-SEQ-SKIP ↦ refl
        | EXR-DEF-EXPR {σ} {x} {e} (r → h) ↦ no_val e _ _ _ _ _ h ∙ ap (within_s (def x) σ) h
        | EXR-DEF-VAL ↦ refl
        | EXR-ASSIGN-EXPR {σ} {x} {e} (r → h) ↦ no_val e _ _ _ _ _ h ∙ ap (within_s (set x) σ) h
        | EXR-ASSIGN-VAL ↦ refl
        | EXR-ARR-ASSIGN-EXPR-L {σ} {a} {e₁} {e₂} (r → h) ↦ no_val e₁ _ _ _ _ _ h ∙ ap (within_s (λ (x : Term). put a x e₂) σ) h
        | EXR-ARR-ASSIGN-EXPR-R {σ} {a} {v} {e₂} (r → h) ↦ no_val e₂ _ _ _ _ _ h ∙ ap (within_s (put a (val v)) σ) h
        | EXR-ARR-ASSIGN-VAL ↦ refl
        | EXR-FOR {w} {μ} {σ} {x} {i} {r} {s} l ↦ ap (λ (b : Bool). pass b (eqb i r) x i r s w μ σ) (lt-ltb i r l)
        | EXR-ADD-SUBST {w} {μ} {σ} {x} {v} {s} q ↦ ap (λ (o : Option ℕ). add o x v s w μ σ) q
        | EXR-FOR-BASE {w} {μ} {σ} {x} {i} {r} {s} q ↦ ap (λ (b : Bool). pass b (eqb i r) x i r s w μ σ) (le-ltb i r (le_of_eq (sym q))) ∙ ap (λ (b : Bool). pass false b x i r s w μ σ) (eq-eqb i r q)
      ]

  -- ---- two reductions of one configuration are one
  landing : Configuration → Next → Configuration
  landing c Next.stop = c
  landing c (Next.to ℓ w μ e) = at w μ e

  Hushed : Next → Type 0
  Hushed Next.stop = ⊥
  Hushed (Next.to quiet w μ e) = Unit {0}
  Hushed (Next.to (counts a) w μ e) = ⊥

  pub deterministic : {σ : Subst} {ℓ ℓ' : Label} {w w₁ w₂ : World} {μ μ₁ μ₂ : List Local} {e e₁ e₂ : Term}
      → Reduces lengths Λ σ ℓ w μ e w₁ μ₁ e₁ → Reduces lengths Λ σ ℓ' w μ e w₂ μ₂ e₂ → Next.to ℓ w₁ μ₁ e₁ ≡ Next.to ℓ' w₂ μ₂ e₂
  deterministic r s = sym (given r) ∙ given s

  one_place : {σ : Subst} {ℓ ℓ' : Label} {w w₁ w₂ : World} {μ μ₁ μ₂ : List Local} {e e₁ e₂ : Term}
      → Reduces lengths Λ σ ℓ w μ e w₁ μ₁ e₁ → Reduces lengths Λ σ ℓ' w μ e w₂ μ₂ e₂ → at w₂ μ₂ e₂ ≡ at w₁ μ₁ e₁
  unfolding landing
  one_place {w} {μ} {e} r s = ap (landing (at w μ e)) (deterministic s r)

  not_both : {σ : Subst} {a : Deed} {w w₁ w₂ : World} {μ μ₁ μ₂ : List Local} {e e₁ e₂ : Term}
      → Reduces lengths Λ σ quiet w μ e w₁ μ₁ e₁ → Reduces lengths Λ σ (counts a) w μ e w₂ μ₂ e₂ → ⊥
  unfolding Hushed
  not_both r s = subst Hushed (deterministic r s) tt

  -- ready for a counted reduction, or done
  pub data Poised : Configuration → Type 0 where
    ended : {w : World} {μ : List Local} {v : ℕ} → Poised (at w μ (val v))
    ready_for : {a : Deed} {w w₁ : World} {μ μ₁ : List Local} {e e₁ : Term} → Reduces lengths Λ empty (counts a) w μ e w₁ μ₁ e₁ → Poised (at w μ e)

  loud : {w w₁ : World} {μ μ₁ : List Local} {e e₁ : Term} → Poised (at w μ e) → Reduces lengths Λ empty quiet w μ e w₁ μ₁ e₁ → ⊥
  unfolding Hushed next
  loud ended r = subst Hushed (sym (given r)) tt
  loud (ready_for s) r = not_both r s

  pub one_configuration : {n : ℕ} {c c₁ c₂ : Configuration} → Reaches lengths Λ n c c₁ → Poised c₁ → Reaches lengths Λ n c c₂ → Poised c₂ → c₁ ≡ c₂
  one_configuration here h here k = refl
  one_configuration here h (quietly s q) k = absurd (loud h s)
  one_configuration (quietly r p) h here k = absurd (loud k r)
  one_configuration {n} {c₂} (quietly r p) h (quietly s q) k = one_configuration p h (subst (λ (c : Configuration). Reaches lengths Λ n c c₂) (one_place r s) q) k
  one_configuration (quietly r p) h (counting s q) k = absurd (not_both r s)
  one_configuration (counting r p) h (quietly s q) k = absurd (not_both s r)
  one_configuration {c₂} (counting {n} r p) h (counting s q) k = one_configuration p h (subst (λ (c : Configuration). Reaches lengths Λ n c c₂) (one_place r s) q) k
