-- The translation (01, "The translation (000)"), clause by clause after document 000's rules: EXT_*, UNOPT_*, BINOPT_*, STT_*, FDEFT_FDEF.
-- Assumes nothing: these are definitions.
use Rattle.std.specs.Prelude.{ℕ, zero, suc, ◌+◌, max, map}
use Rattle.word.specs.Value.{TRUE, FALSE, Op, add, sub, mul, shl, shr, and, or, eq, ne, gt, lt, ge, le, land, lor}
use Rattle.script.specs.Tree.{Expr, num, tru, fls, var, get, lnot, bnot, bin, call, Exprs, none, more, Stmt, skip, seq, def, set, put, for, if, return, Stmts, done, next, Func, Program}
use Rattle.tape.specs.Core.{CExpr, LIT, VAR, GET, NOT, BIN, CALL, CExprs, NONE, MORE, CStmt, SKIP, ◌⨾◌, DEF, SET, PUT, FOR, CFunc, CProgram}

-- BINOPT_*: && becomes & and || becomes |; the comparisons' small s is the widening that they have here anyway
unfoldable pub lowered : Op → Op
lowered add = add
lowered sub = sub
lowered mul = mul
lowered shl = shl
lowered shr = shr
lowered and = and
lowered or = or
lowered eq = eq
lowered ne = ne
lowered gt = gt
lowered lt = lt
lowered ge = ge
lowered le = le
lowered land = and
lowered lor = or

-- EXT_VAL, EXT_VAR, EXT_ARR_GET, UNOPT_LNOT and UNOPT_UNOP, BINOPT_*, EXT_FN_CALL
unfoldable mutual
  pub EXT : Expr → CExpr
  EXT (num v) = LIT v
  EXT tru = LIT TRUE
  EXT fls = LIT FALSE
  EXT (var x) = VAR x
  EXT (get a i) = GET a (EXT i)
  EXT (lnot e) = NOT (EXT e)
  EXT (bnot e) = NOT (EXT e)
  EXT (bin o l r) = BIN (lowered o) (EXT l) (EXT r)
  EXT (call f es) = CALL f (EXTs es)

  pub EXTs : Exprs → CExprs
  EXTs none = NONE
  EXTs (more e es) = MORE (EXT e) (EXTs es)

-- where a function keeps the translation's own values: rval, rnset, the condition of an IF with d IFs round it; and its outermost context
pub record Layout : Type 0 where
  pub rval : ℕ
  pub rnset : ℕ
  pub condition : ℕ → ℕ
  pub outermost : CExpr

-- "In a function with n slots: rval is slot n, rnset n+1, the condition of an IF with d IFs round it n+2+d"; "The context C at depth 0 is LIT TRUE"
abbrev pub layout : ℕ → Layout
layout n = record { rval = n; rnset = n + 1; condition = λ d. n + 2 + d; outermost = LIT TRUE }

module _ (l : Layout) where
  -- C: "at depth d+1 it is the condition slot of d `&` the context at d"
  unfoldable pub context : ℕ → CExpr
  context zero = l.outermost
  context (suc d) = BIN and (VAR (l.condition d)) (context d)

  -- M: "C `&` rnset"
  unfoldable pub masking : ℕ → CExpr
  masking d = BIN and (context d) (VAR l.rnset)

  -- (e & M) | (old & ~M)
  unfoldable pub merge : ℕ → CExpr → CExpr → CExpr
  merge d e old = BIN or (BIN and e (masking d)) (BIN and old (NOT (masking d)))

  -- STT_SKIP, STT_SEQ, STT_VAR_DEC, STT_VAR_ASSIGN, STT_ARR_ASSIGN, STT_FOR, STT_IF, STT_RET, at IF depth d
  unfoldable mutual
    pub STT : ℕ → Stmt → CStmt
    STT d skip = SKIP
    STT d (seq ss) = STTs d ss
    STT d (def x e) = DEF x (EXT e)
    STT d (set x e) = SET x (merge d (EXT e) (VAR x))
    STT d (put a i e) = PUT a (EXT i) (merge d (EXT e) (GET a (EXT i)))
    STT d (for x q r s) = FOR x q r (STT d s)
    STT d (if c s t) =
        DEF (l.condition d) (EXT c) ⨾ STT (suc d) s ⨾ SET (l.condition d) (NOT (VAR (l.condition d))) ⨾ STT (suc d) t
    STT d (return e) =
        SET l.rval (BIN or (BIN and (EXT e) (masking d)) (VAR l.rval))
        ⨾ SET l.rnset (BIN and (VAR l.rnset) (NOT (context d)))

    pub STTs : ℕ → Stmts → CStmt
    STTs d done = SKIP
    STTs d (next s ss) = STT d s ⨾ STTs d ss

-- the deepest IF nesting
unfoldable mutual
  pub depth : Stmt → ℕ
  depth skip = 0
  depth (seq ss) = depths ss
  depth (def x e) = 0
  depth (set x e) = 0
  depth (put a i e) = 0
  depth (for x q r s) = depth s
  depth (if c s t) = suc (max (depth s) (depth t))
  depth (return e) = 0

  pub depths : Stmts → ℕ
  depths done = 0
  depths (next s ss) = max (depth s) (depths ss)

-- FDEFT_FDEF; "CFUNC's q is n+2 plus the function's deepest IF nesting"
unfoldable pub FDEFT : Func → CFunc
FDEFT f =
    let l = layout f.slots in
    record {
      params = f.params;
      slots = f.slots + 2 + depth f.body;
      body = DEF l.rval (LIT FALSE) ⨾ DEF l.rnset (LIT TRUE) ⨾ STT l 0 f.body;
      ret = l.rval;
    }

-- "PROGRAM and ARRAY records are copied."
unfoldable pub translate : Program → CProgram
translate p = record { arrays = p.arrays; funcs = map FDEFT p.funcs }
