-- The steps of a core program, from its text (01, "The core tape": "One step is counted by each VAR, GET, NOT, BIN, CALL, DEF, SET, PUT, RET, and
-- by FOR once a pass. LIT, END and a FOR that is over count nothing."). Assumes nothing: these are definitions.
use Rattle.std.specs.Prelude.{ℕ, suc, ◌+◌, ◌-◌, ◌*◌, List, [], ◌∷◌, ◌++◌, length, get_or}
use Rattle.tape.specs.Core.{CExpr, LIT, VAR, GET, NOT, BIN, CALL, CExprs, NONE, MORE, CStmt, SKIP, ◌⨾◌, DEF, SET, PUT, FOR, CFunc, CProgram}

-- 12 and 30: a function's steps, its calls included, may be this many
abbrev pub most : ℕ
most = 1000000000

-- where function f, once it is entered, takes κ f steps
module _ (κ : ℕ → ℕ) where
  unfoldable mutual
    pub steps_e : CExpr → ℕ
    steps_e (LIT v) = 0
    steps_e (VAR x) = 1
    steps_e (GET a i) = suc (steps_e i)
    steps_e (NOT e) = suc (steps_e e)
    steps_e (BIN o l r) = suc (steps_e l + steps_e r)
    steps_e (CALL f es) = suc (steps_es es + κ f)

    pub steps_es : CExprs → ℕ
    steps_es NONE = 0
    steps_es (MORE e es) = steps_e e + steps_es es

  unfoldable pub steps_s : CStmt → ℕ
  steps_s SKIP = 0
  steps_s (s ⨾ t) = steps_s s + steps_s t
  steps_s (DEF x e) = suc (steps_e e)
  steps_s (SET x e) = suc (steps_e e)
  steps_s (PUT a i e) = suc (steps_e i + steps_e e)
  steps_s (FOR x q r s) = (r - q) * suc (steps_s s)

  -- RET's one with them
  unfoldable pub steps_f : CFunc → ℕ
  steps_f f = suc (steps_s f.body)

-- each function's, in order, after those in `known`: a call goes to a lower one
unfoldable pub steps_from : List ℕ → List CFunc → List ℕ
steps_from known [] = known
steps_from known (f ∷ fs) = steps_from (known ++ (steps_f (λ g. get_or known g 0) f ∷ [])) fs

unfoldable pub steps_of : CProgram → List ℕ
steps_of p = steps_from [] p.funcs

-- the exposed function's, the last one's
unfoldable pub steps_exposed : CProgram → ℕ
steps_exposed p = get_or (steps_of p) (length p.funcs - 1) 0
