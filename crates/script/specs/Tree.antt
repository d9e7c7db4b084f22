-- Scripts as trees (01, "The script table"; 000's e_h, s_h, hfndef, hprogram). A tree holds no positions: the record of a part is its whole's,
-- and 1, and the sizes of the parts before it. Assumes nothing: these are definitions.
use Rattle.std.specs.Prelude.{ℕ, suc, ◌+◌, List}
use Rattle.word.specs.Value.{Op}

mutual
  -- NUM value, TRUE, FALSE, VAR slot, GET array index, `!`, `~`, BIN left right, CALL function arguments
  pub data Expr : Type 0 where
    num : ℕ → Expr
    tru fls : Expr
    var : ℕ → Expr
    get : ℕ → Expr → Expr
    lnot bnot : Expr → Expr
    bin : Op → Expr → Expr → Expr
    call : ℕ → Exprs → Expr

  pub data Exprs : Type 0 where
    none : Exprs
    more : Expr → Exprs → Exprs

mutual
  -- SKIP, SEQ, DEF slot, SET slot, PUT array index value, FOR slot from to, IF condition then else, RETURN
  pub data Stmt : Type 0 where
    skip : Stmt
    seq : Stmts → Stmt
    def set : ℕ → Expr → Stmt
    put : ℕ → Expr → Expr → Stmt
    for : ℕ → ℕ → ℕ → Stmt → Stmt
    if : Expr → Stmt → Stmt → Stmt
    return : Expr → Stmt

  pub data Stmts : Type 0 where
    done : Stmts
    next : Stmt → Stmts → Stmts

pub record Func : Type 0 where
  pub params : ℕ
  pub slots : ℕ
  pub body : Stmt

-- the arrays' lengths, and the functions: "The last function is the exposed one."
pub record Program : Type 0 where
  pub arrays : List ℕ
  pub funcs : List Func

-- how many records they have
unfoldable mutual
  pub size_e : Expr → ℕ
  size_e (num v) = 1
  size_e tru = 1
  size_e fls = 1
  size_e (var x) = 1
  size_e (get a i) = suc (size_e i)
  size_e (lnot e) = suc (size_e e)
  size_e (bnot e) = suc (size_e e)
  size_e (bin o l r) = suc (size_e l + size_e r)
  size_e (call f es) = suc (size_es es)

  pub size_es : Exprs → ℕ
  size_es none = 0
  size_es (more e es) = size_e e + size_es es

unfoldable mutual
  pub size_s : Stmt → ℕ
  size_s skip = 1
  size_s (seq ss) = suc (size_ss ss)
  size_s (def x e) = suc (size_e e)
  size_s (set x e) = suc (size_e e)
  size_s (put a i e) = suc (size_e i + size_e e)
  size_s (for x q r s) = suc (size_s s)
  size_s (if c s t) = suc (size_e c + (size_s s + size_s t))
  size_s (return e) = suc (size_e e)

  pub size_ss : Stmts → ℕ
  size_ss done = 0
  size_ss (next s ss) = size_s s + size_ss ss

unfoldable pub size_f : Func → ℕ
size_f f = suc (size_s f.body)
