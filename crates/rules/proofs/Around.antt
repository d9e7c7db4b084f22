-- What stands round a part while it reduces: a reduction of the part is one of the whole. Assumes nothing.
use mathlib.Core.List.{List, [], ◌∷◌}
use Prim.Native.Nat.{ℕ}
use Rattle.word.specs.Value.{Op}
use Rattle.tape.specs.Rules.{World}
use Rattle.rules.specs.Configurations.{Subst, Local, empty, Term, val, get, not, bin, call, body, Terms, arg, Work, skip, seq, def, set, put, vals, Fval}
use Rattle.rules.specs.Reduction.{Label, Reduces, EXR-ARR-GET-EXPR, EXR-UNOP-EXPR, EXR-BINOP-L, EXR-BINOP-R, EXR-FN-EXPR, EXR-SKIP-EXPR, BODY, ReducesS, EXR-SEQ, EXR-DEF-EXPR, EXR-ASSIGN-EXPR, EXR-ARR-ASSIGN-EXPR-L, EXR-ARR-ASSIGN-EXPR-R}

module _ (lengths : List ℕ) (Λ : ℕ → Fval) where
  -- round an expression under {σ}, round further arguments, and round a statement
  pub record Around (σ : Subst) : Type 0 where
    pub plug : Term → Term
    pub lift : {ℓ : Label} {w w' : World} {μ μ' : List Local} {e e' : Term}
        → Reduces lengths Λ σ ℓ w μ e w' μ' e' → Reduces lengths Λ empty ℓ w μ (plug e) w' μ' (plug e')

  pub record AroundArgs (σ : Subst) : Type 0 where
    pub plug : Terms → Term
    pub lift : {ℓ : Label} {w w' : World} {μ μ' : List Local} {e e' : Term} (vs : List ℕ) (es : Terms)
        → Reduces lengths Λ σ ℓ w μ e w' μ' e' → Reduces lengths Λ empty ℓ w μ (plug (vals vs (arg e es))) w' μ' (plug (vals vs (arg e' es)))

  pub record AroundStmt : Type 0 where
    pub plug : Subst → Work → Term
    pub lift : {ℓ : Label} {w w' : World} {μ μ' : List Local} {σ σ' : Subst} {s s' : Work}
        → ReducesS lengths Λ ℓ w μ σ s w' μ' σ' s' → Reduces lengths Λ empty ℓ w μ (plug σ s) w' μ' (plug σ' s')

  unfoldable pub nothing : Around empty
  nothing = record { plug = λ e. e; lift = λ r. r }

  -- one thing more round it
  unfoldable pub round_get : {σ : Subst} → ℕ → Around σ → Around σ
  round_get a K = record { plug = λ e. K.plug (get a e); lift = λ r. K.lift (EXR-ARR-GET-EXPR r) }

  unfoldable pub round_not : {σ : Subst} → Around σ → Around σ
  round_not K = record { plug = λ e. K.plug (not e); lift = λ r. K.lift (EXR-UNOP-EXPR r) }

  unfoldable pub round_left : {σ : Subst} → Op → Term → Around σ → Around σ
  round_left o b K = record { plug = λ e. K.plug (bin o e b); lift = λ r. K.lift (EXR-BINOP-L r) }

  unfoldable pub round_right : {σ : Subst} → Op → ℕ → Around σ → Around σ
  round_right o u K = record { plug = λ e. K.plug (bin o (val u) e); lift = λ r. K.lift (EXR-BINOP-R r) }

  unfoldable pub round_args : {σ : Subst} → ℕ → Around σ → AroundArgs σ
  round_args f K = record { plug = λ es. K.plug (call f es); lift = λ vs es r. K.lift (EXR-FN-EXPR vs es r) }

  unfoldable pub round_first : {σ : Subst} → Terms → AroundArgs σ → Around σ
  unfolding vals
  round_first es K = record { plug = λ e. K.plug (arg e es); lift = λ r. K.lift [] es r }

  unfoldable pub round_rest : {σ : Subst} → ℕ → AroundArgs σ → AroundArgs σ
  unfolding vals
  round_rest u K = record { plug = λ es. K.plug (arg (val u) es); lift = λ vs es r. K.lift (u ∷ vs) es r }

  unfoldable pub round_body : {σ : Subst} → Term → Around σ → AroundStmt
  round_body e₀ K = record { plug = λ σ s. K.plug (body σ s e₀); lift = λ r. K.lift (BODY r) }

  unfoldable pub round_result : {ρ : Subst} (σ : Subst) → Around ρ → Around σ
  round_result σ K = record { plug = λ e. K.plug (body σ skip e); lift = λ r. K.lift (EXR-SKIP-EXPR r) }

  unfoldable pub round_seq : Work → AroundStmt → AroundStmt
  round_seq t S = record { plug = λ σ s. S.plug σ (seq s t); lift = λ r. S.lift (EXR-SEQ r) }

  unfoldable pub round_def : (σ : Subst) → ℕ → AroundStmt → Around σ
  round_def σ x S = record { plug = λ e. S.plug σ (def x e); lift = λ r. S.lift (EXR-DEF-EXPR r) }

  unfoldable pub round_set : (σ : Subst) → ℕ → AroundStmt → Around σ
  round_set σ x S = record { plug = λ e. S.plug σ (set x e); lift = λ r. S.lift (EXR-ASSIGN-EXPR r) }

  unfoldable pub round_index : (σ : Subst) → ℕ → Term → AroundStmt → Around σ
  round_index σ a b S = record { plug = λ e. S.plug σ (put a e b); lift = λ r. S.lift (EXR-ARR-ASSIGN-EXPR-L r) }

  unfoldable pub round_value : (σ : Subst) → ℕ → ℕ → AroundStmt → Around σ
  round_value σ a u S = record { plug = λ e. S.plug σ (put a (val u) e); lift = λ r. S.lift (EXR-ARR-ASSIGN-EXPR-R r) }
