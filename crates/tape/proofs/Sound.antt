-- The core programs that an accepted tape stands for: each call goes to a lower function with as many arguments as it has parameters, and each
-- slot keeps the slot rule (29). A scope says what is visible. Assumes nothing.
use mathlib.Core.Path.{◌≡◌}
use mathlib.Core.Bool.{true}
use mathlib.Core.List.{List, [], ◌∷◌}
use Prim.Native.Nat.{ℕ, zero, suc, ◌≤◌, ◌<◌}
use Rattle.word.specs.Slots.{upd, fixed, defined, Scope, begin}
use Rattle.tape.specs.Core.{CExpr, LIT, VAR, GET, NOT, BIN, CALL, CExprs, NONE, MORE, CStmt, SKIP, ◌⨾◌, DEF, SET, PUT, FOR, CFunc, CProgram}
use Rattle.tape.specs.Faults.{readable, settable, definable, unnamed}

unfoldable pub arguments : CExprs → ℕ
arguments NONE = 0
arguments (MORE e es) = suc (arguments es)

-- what is visible after a statement
unfoldable pub after_s : Scope → CStmt → Scope
after_s D SKIP = D
after_s D (s ⨾ t) = after_s (after_s D s) t
after_s D (DEF x e) = upd D x defined
after_s D (SET x e) = D
after_s D (PUT a i e) = D
after_s D (FOR x q r s) = D

-- of function k, where function f has π f parameters
module _ (π : ℕ → ℕ) (k : ℕ) where
  unfoldable mutual
    pub SoundE : Scope → CExpr → Type 0
    SoundE D (LIT n) = Unit {0}
    SoundE D (VAR x) = readable (D x) ≡ true
    SoundE D (GET a i) = SoundE D i
    SoundE D (NOT e) = SoundE D e
    SoundE D (BIN o l r) = SoundE D l × SoundE D r
    SoundE D (CALL f es) = (f < k) × (arguments es ≡ π f) × SoundEs D es

    pub SoundEs : Scope → CExprs → Type 0
    SoundEs D NONE = Unit {0}
    SoundEs D (MORE e es) = SoundE D e × SoundEs D es

  unfoldable pub SoundS : Scope → CStmt → Type 0
  SoundS D SKIP = Unit {0}
  SoundS D (s ⨾ t) = SoundS D s × SoundS (after_s D s) t
  SoundS D (DEF x e) = (definable (D x) ≡ true) × SoundE D e
  SoundS D (SET x e) = (settable (D x) ≡ true) × SoundE D e
  SoundS D (PUT a i e) = SoundE D i × SoundE D e
  SoundS D (FOR x q r s) = (q ≤ r) × (unnamed (D x) ≡ true) × SoundS (upd D x fixed) s

  pub record SoundF (f : CFunc) : Type 0 where
    pub body : SoundS (begin f.params) f.body
    pub ret : readable (after_s (begin f.params) f.body f.ret) ≡ true

-- the functions from the k-th on, one at least
pub data SoundFrom (π : ℕ → ℕ) : ℕ → List CFunc → Type 0 where
  the_last : {k : ℕ} {f : CFunc} → SoundF π k f → SoundFrom π k (f ∷ [])
  one_more : {k : ℕ} {f g : CFunc} {fs : List CFunc} → SoundF π k f → SoundFrom π (suc k) (g ∷ fs) → SoundFrom π k (f ∷ g ∷ fs)

unfoldable pub params_at : List CFunc → ℕ → ℕ
params_at [] f = 0
params_at (g ∷ gs) zero = g.params
params_at (g ∷ gs) (suc f) = params_at gs f

abbrev pub Sound : CProgram → Type 0
Sound p = SoundFrom (params_at p.funcs) 0 p.funcs
