-- Expressions and statements while they run, and configurations {Λ, Γ, μ, κ} e (000). Γ and κ are a `World`, as in the core rules on the tape; μ is a
-- list of frames, the innermost first, so that μ ▷ ∅ is `empty ∷ μ` and the outermost ∅ is []. Λ does not change, so it is a parameter of the rules.
-- Assumes nothing: these are definitions.
use Rattle.std.specs.Prelude.{ℕ, zero, suc, List, [], ◌∷◌}
use Rattle.std.proofs.Math.Option.{Option, none, some}
use Rattle.word.specs.Value.{Op}
use Rattle.tape.specs.Core.{CExpr, LIT, VAR, GET, NOT, BIN, CALL, CExprs, NONE, MORE, CStmt, SKIP, ◌⨾◌, DEF, SET, PUT, FOR, CFunc, CProgram}
use Rattle.tape.specs.Rules.{World}

-- {σ}, and a frame of μ
abbrev pub Subst : Type 0
Subst = ℕ → Option ℕ

abbrev pub Local : Type 0
Local = ℕ → Option ℕ

unfoldable pub empty : ℕ → Option ℕ
empty x = none

-- {x₁/v₁, .., xₖ/vₖ} of a function's parameters, which are its first slots
unfoldable pub bind : List ℕ → Subst
bind [] x = none
bind (v ∷ vs) zero = some v
bind (v ∷ vs) (suc x) = bind vs x

-- `bare x` is an x from which {σ} was taken (EXR_SUBST_NO_VAR), `body σ s e` is {σ} s @ e, and `added x v s` is ({x/v} s)
mutual
  pub data Term : Type 0 where
    val var bare : ℕ → Term
    get : ℕ → Term → Term
    not : Term → Term
    bin : Op → Term → Term → Term
    call : ℕ → Terms → Term
    body : Subst → Work → Term → Term

  pub data Terms : Type 0 where
    nil : Terms
    arg : Term → Terms → Terms

  pub data Work : Type 0 where
    skip : Work
    seq : Work → Work → Work
    def set : ℕ → Term → Work
    put : ℕ → Term → Term → Work
    for : ℕ → ℕ → ℕ → Work → Work
    added : ℕ → ℕ → Work → Work

-- v₁, .., vₖ before further arguments
unfoldable pub vals : List ℕ → Terms → Terms
vals [] es = es
vals (v ∷ vs) es = arg (val v) (vals vs es)

-- (x₁, .., xₙ) : s @ e
pub record Fval : Type 0 where
  pub params : ℕ
  pub stmt : Work
  pub result : Term

-- a configuration, without Λ
pub data Configuration : Type 0 where
  at : World → List Local → Term → Configuration

-- ---- a core program as the rules begin on it
unfoldable mutual
  pub load : CExpr → Term
  load (LIT v) = val v
  load (VAR x) = var x
  load (GET a i) = get a (load i)
  load (NOT e) = not (load e)
  load (BIN o l r) = bin o (load l) (load r)
  load (CALL f es) = call f (loads es)

  pub loads : CExprs → Terms
  loads NONE = nil
  loads (MORE e es) = arg (load e) (loads es)

unfoldable pub load_s : CStmt → Work
load_s SKIP = skip
load_s (s ⨾ t) = seq (load_s s) (load_s t)
load_s (DEF x e) = def x (load e)
load_s (SET x e) = set x (load e)
load_s (PUT a i e) = put a (load i) (load e)
load_s (FOR x q r s) = for x q r (load_s s)

unfoldable pub fval : CFunc → Fval
fval f = record { params = f.params; stmt = load_s f.body; result = var f.ret }

-- Λ: no function beyond the last
unfoldable pub fval_at : List CFunc → ℕ → Fval
fval_at [] f = record { params = 0; stmt = skip; result = val 0 }
fval_at (g ∷ gs) zero = fval g
fval_at (g ∷ gs) (suc f) = fval_at gs f

-- the exposed function's body on these arguments: {x₁/v₁, ..} s @ e
unfoldable pub exposed_body : List CFunc → List ℕ → Term
exposed_body [] arguments = val 0
exposed_body (f ∷ []) arguments = body (bind arguments) (fval f).stmt (fval f).result
exposed_body (f ∷ g ∷ fs) arguments = exposed_body (g ∷ fs) arguments

-- "The run begins inside the exposed function; entering it isn't counted": over one empty frame
abbrev pub beginning : CProgram → List ℕ → List ℕ → Configuration
beginning p arguments memory = at (record { bytes = memory; steps = 0 }) (empty ∷ []) (exposed_body p.funcs arguments)
