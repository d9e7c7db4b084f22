-- Core programs as trees (01, "The core tape"; 000's e, s, fndef, program). A tape is the tree in postfix order; SKIP and ⨾ leave no record
-- of their own. Assumes nothing: these are definitions.
use Rattle.std.specs.Prelude.{ℕ, List}
use Rattle.word.specs.Value.{Op}

infixr 40 ◌⨾◌
mutual
  pub data CExpr : Type 0 where
    LIT VAR : ℕ → CExpr
    GET : ℕ → CExpr → CExpr
    NOT : CExpr → CExpr
    BIN : Op → CExpr → CExpr → CExpr
    CALL : ℕ → CExprs → CExpr

  pub data CExprs : Type 0 where
    NONE : CExprs
    MORE : CExpr → CExprs → CExprs

pub data CStmt : Type 0 where
  SKIP : CStmt
  ◌⨾◌ : CStmt → CStmt → CStmt
  DEF SET : ℕ → CExpr → CStmt
  PUT : ℕ → CExpr → CExpr → CStmt
  FOR : ℕ → ℕ → ℕ → CStmt → CStmt

-- 000's (x₁, .., xₙ) : s @ e, where e is a slot, RET's
pub record CFunc : Type 0 where
  pub params : ℕ
  pub slots : ℕ
  pub body : CStmt
  pub ret : ℕ

pub record CProgram : Type 0 where
  pub arrays : List ℕ
  pub funcs : List CFunc
