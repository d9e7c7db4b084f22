-- The limits that the check keeps, on the tree: 21, the records; 25, the ranges of fields; 27, nested FORs; 28, the operands that wait; 30, the steps.
-- Assumes nothing.
use mathlib.Core.List.{List, [], ◌∷◌}
use Prim.Native.Nat.{ℕ, zero, suc, max, ◌≤◌, ◌<◌}
use lib.ListN.{length, get_or}
use native.Mathlib.Omega.{arith}
use Rattle.word.specs.Code.{code}
use Rattle.tape.specs.Core.{CExpr, LIT, VAR, GET, NOT, BIN, CALL, CExprs, NONE, MORE, CStmt, SKIP, ◌⨾◌, DEF, SET, PUT, FOR, CFunc, CProgram}
use Rattle.tape.specs.Tape.{instructions}
use Rattle.tape.specs.Steps.{most, steps_of}

-- what holds of each part of a list
pub data Each {A : Type 0} (P : A → Type 0) : List A → Type 0 where
  none : Each P []
  one : {x : A} {xs : List A} → P x → Each P xs → Each P (x ∷ xs)

pub each_at : {A : Type 0} {P : A → Type 0} {xs : List A} → Each P xs → (i : ℕ) (d : A) → i < length xs → P (get_or xs i d)
each_at none i d h = absurd (omega arith)
each_at (one p r) zero d h = p
each_at (one p r) (suc i) d h = each_at r i d (omega arith)

-- how many operands wait at most while an expression is read, those below it not counted; and those of a call, the first one's below the second's
unfoldable mutual
  pub height_e : CExpr → ℕ
  height_e (LIT v) = 1
  height_e (VAR x) = 1
  height_e (GET a i) = height_e i
  height_e (NOT e) = height_e e
  height_e (BIN o l r) = max (height_e l) (suc (height_e r))
  height_e (CALL f es) = max 1 (height_es es)

  pub height_es : CExprs → ℕ
  height_es NONE = 0
  height_es (MORE e es) = max (height_e e) (suc (height_es es))

pub some_height : (e : CExpr) → 1 ≤ height_e e
unfolding height_e
some_height (LIT v) = omega arith
some_height (VAR x) = omega arith
some_height (GET a i) = some_height i
some_height (NOT e) = some_height e
some_height (BIN o l r) = omega arith
some_height (CALL f es) = omega arith

-- in a function with so many slots, of a program with so many arrays
module _ (slots arrays : ℕ) where
  unfoldable mutual
    pub FitsE : CExpr → Type 0
    FitsE (LIT v) = Unit {0}
    FitsE (VAR x) = x < slots
    FitsE (GET a i) = (a < arrays) × FitsE i
    FitsE (NOT e) = FitsE e
    FitsE (BIN o l r) = (code o ≤ 13) × FitsE l × FitsE r
    FitsE (CALL f es) = FitsEs es

    pub FitsEs : CExprs → Type 0
    FitsEs NONE = Unit {0}
    FitsEs (MORE e es) = FitsE e × FitsEs es

  -- where so many FORs are open
  unfoldable pub FitsS : ℕ → CStmt → Type 0
  FitsS loops SKIP = Unit {0}
  FitsS loops (s ⨾ t) = FitsS loops s × FitsS loops t
  FitsS loops (DEF x e) = (x < slots) × (height_e e ≤ 128) × FitsE e
  FitsS loops (SET x e) = (x < slots) × (height_e e ≤ 128) × FitsE e
  FitsS loops (PUT a i e) = (a < arrays) × (max (height_e i) (suc (height_e e)) ≤ 128) × FitsE i × FitsE e
  FitsS loops (FOR x q r s) = (x < slots) × (loops < 8) × FitsS (suc loops) s

-- what PROGRAM and the ARRAYs, what a CFUNC with its body, and what a tape asks for
pub record FitsHead (functions arrays : ℕ) (lengths : List ℕ) : Type 0 where
  pub some_functions : 1 ≤ functions
  pub few_functions : functions ≤ 16
  pub few_arrays : arrays ≤ 8
  pub each_array : Each (λ n. (1 ≤ n) × (n ≤ 4096)) lengths

pub record FitsF (arrays : ℕ) (f : CFunc) : Type 0 where
  pub params : f.params ≤ 8
  pub among : f.params ≤ f.slots
  pub slots : f.slots ≤ 64
  pub body : FitsS f.slots arrays 0 f.body
  pub ret : f.ret < f.slots

pub record Limits (p : CProgram) : Type 0 where
  pub records : length (instructions p) ≤ 131072
  pub head : FitsHead (length p.funcs) (length p.arrays) p.arrays
  pub funcs : Each (FitsF (length p.arrays)) p.funcs
  pub within : Each (λ n. n ≤ most) (steps_of p)
