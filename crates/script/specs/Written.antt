-- The table of a tree, and the ranges and depths that 01 sets (01, "The script table"): what `reads_exactly` speaks of. Assumes nothing: these
-- are definitions.
use Rattle.std.specs.Prelude.{ℕ, suc, ◌^◌, ◌≤◌, ◌<◌, max, ◌≡◌, List, [], ◌∷◌, length, get_or}
use Rattle.word.specs.Records.{rec, words_of}
use Rattle.word.specs.Code.{code}
use Rattle.word.specs.declared.Record.{Record}
use Rattle.script.specs.Tree.{Expr, num, tru, fls, var, get, lnot, bnot, bin, call, Exprs, none, more, Stmt, skip, seq, def, set, put, for, if, return, Stmts, done, next, Func, Program}
use Rattle.script.specs.Table.{NUM, TRUE, FALSE, VAR, GET, LNOT, BNOT, BIN, CALL, SKIP, SEQ, DEF, SET, PUT, FOR, IF, RETURN, HeadF, write_e, write_s}
use Rattle.script.specs.Parse.{entered, passed, nowhere}
use Rattle.script.specs.declared.Env.{Env}

-- ---- how many parts
unfoldable pub count_e : Exprs → ℕ
count_e none = 0
count_e (more e es) = suc (count_e es)

unfoldable pub count_s : Stmts → ℕ
count_s done = 0
count_s (next s ss) = suc (count_s ss)

-- ---- "Prefix order": a tree's records, before those that follow
unfoldable mutual
  pub list_e : Expr → List Record → List Record
  list_e (num v) rest = write_e (NUM v) ∷ rest
  list_e tru rest = write_e TRUE ∷ rest
  list_e fls rest = write_e FALSE ∷ rest
  list_e (var x) rest = write_e (VAR x) ∷ rest
  list_e (get a i) rest = write_e (GET a) ∷ list_e i rest
  list_e (lnot e) rest = write_e LNOT ∷ list_e e rest
  list_e (bnot e) rest = write_e BNOT ∷ list_e e rest
  list_e (bin o l r) rest = write_e (BIN (code o)) ∷ list_e l (list_e r rest)
  list_e (call f es) rest = write_e (CALL f) ∷ list_es es rest

  pub list_es : Exprs → List Record → List Record
  list_es none rest = rest
  list_es (more e es) rest = list_e e (list_es es rest)

unfoldable mutual
  pub list_s : Stmt → List Record → List Record
  list_s skip rest = write_s SKIP ∷ rest
  list_s (seq ss) rest = write_s (SEQ (count_s ss)) ∷ list_ss ss rest
  list_s (def x e) rest = write_s (DEF x) ∷ list_e e rest
  list_s (set x e) rest = write_s (SET x) ∷ list_e e rest
  list_s (put a i e) rest = write_s (PUT a) ∷ list_e i (list_e e rest)
  list_s (for x q r s) rest = write_s (FOR x q r) ∷ list_s s rest
  list_s (if c s t) rest = write_s IF ∷ list_e c (list_s s (list_s t rest))
  list_s (return e) rest = write_s RETURN ∷ list_e e rest

  pub list_ss : Stmts → List Record → List Record
  list_ss done rest = rest
  list_ss (next s ss) rest = list_s s (list_ss ss rest)

unfoldable pub list_arrays : List ℕ → List Record → List Record
list_arrays [] rest = rest
list_arrays (n ∷ lengths) rest = rec 2 n 0 0 ∷ list_arrays lengths rest

unfoldable pub list_funcs : List Func → List Record
list_funcs [] = []
list_funcs (f ∷ fs) = rec 3 f.params f.slots 0 ∷ list_s f.body (list_funcs fs)

unfoldable pub listing : Program → List Record
listing p = rec 1 (length p.funcs) (length p.arrays) 0 ∷ list_arrays p.arrays (list_funcs p.funcs)

unfoldable pub table : Program → List ℕ
table p = words_of (listing p)

-- ---- depths: "one that stands in a statement is depth 1, a part is one deeper than its whole"; IFs and FORs, one within another
unfoldable mutual
  pub depth_e : Expr → ℕ
  depth_e (num v) = 1
  depth_e tru = 1
  depth_e fls = 1
  depth_e (var x) = 1
  depth_e (get a i) = suc (depth_e i)
  depth_e (lnot e) = suc (depth_e e)
  depth_e (bnot e) = suc (depth_e e)
  depth_e (bin o l r) = suc (max (depth_e l) (depth_e r))
  depth_e (call f es) = suc (depth_es es)

  pub depth_es : Exprs → ℕ
  depth_es none = 0
  depth_es (more e es) = max (depth_e e) (depth_es es)

unfoldable mutual
  pub depth_s : Stmt → ℕ
  depth_s skip = 1
  depth_s (seq ss) = suc (depth_ss ss)
  depth_s (def x e) = 1
  depth_s (set x e) = 1
  depth_s (put a i e) = 1
  depth_s (for x q r s) = suc (depth_s s)
  depth_s (if c s t) = suc (max (depth_s s) (depth_s t))
  depth_s (return e) = 1

  pub depth_ss : Stmts → ℕ
  depth_ss done = 0
  depth_ss (next s ss) = max (depth_s s) (depth_ss ss)

unfoldable mutual
  pub ifs : Stmt → ℕ
  ifs skip = 0
  ifs (seq ss) = ifs_all ss
  ifs (def x e) = 0
  ifs (set x e) = 0
  ifs (put a i e) = 0
  ifs (for x q r s) = ifs s
  ifs (if c s t) = suc (max (ifs s) (ifs t))
  ifs (return e) = 0

  pub ifs_all : Stmts → ℕ
  ifs_all done = 0
  ifs_all (next s ss) = max (ifs s) (ifs_all ss)

unfoldable mutual
  pub fors : Stmt → ℕ
  fors skip = 0
  fors (seq ss) = fors_all ss
  fors (def x e) = 0
  fors (set x e) = 0
  fors (put a i e) = 0
  fors (for x q r s) = suc (fors s)
  fors (if c s t) = max (fors s) (fors t)
  fors (return e) = 0

  pub fors_all : Stmts → ℕ
  fors_all done = 0
  fors_all (next s ss) = max (fors s) (fors_all ss)

-- ---- ranges, of the fields and of the words themselves
unfoldable mutual
  pub InE : Env → Expr → Type 0
  InE v (num n) = n < 2 ^ 32
  InE v tru = Unit {0}
  InE v fls = Unit {0}
  InE v (var x) = x < v.slots
  InE v (get a i) = (a < v.arrays) × InE v i
  InE v (lnot e) = InE v e
  InE v (bnot e) = InE v e
  InE v (bin o l r) = InE v l × InE v r
  InE v (call f es) = (f < v.func) × (count_e es ≡ get_or v.params f 0) × InEs v es

  pub InEs : Env → Exprs → Type 0
  InEs v none = Unit {0}
  InEs v (more e es) = InE v e × InEs v es

-- an expression that stands in a statement
abbrev pub InS : Env → Expr → Type 0
InS v e = InE v e × (depth_e e ≤ 16)

unfoldable mutual
  pub Inside : Env → Stmt → Type 0
  Inside v skip = Unit {0}
  Inside v (seq ss) = (2 ≤ count_s ss) × (count_s ss ≤ 256) × Insides v ss
  Inside v (def x e) = (x < v.slots) × InS v e
  Inside v (set x e) = (x < v.slots) × InS v e
  Inside v (put a i e) = (a < v.arrays) × InS v i × InS v e
  Inside v (for x q r s) = (x < v.slots) × (q ≤ r) × (r < 2 ^ 32) × Inside v s
  Inside v (if c s t) = InS v c × Inside v s × Inside v t
  Inside v (return e) = InS v e

  pub Insides : Env → Stmts → Type 0
  Insides v done = Unit {0}
  Insides v (next s ss) = Inside v s × Insides v ss

abbrev pub head_of : Func → HeadF
head_of f = record { params = f.params; slots = f.slots }

pub record InFunc (v : Env) (f : Func) : Type 0 where
  pub few : f.params ≤ 8
  pub room : f.params ≤ f.slots
  pub slots : f.slots ≤ 32
  pub body : Inside (entered v (head_of f)) f.body
  pub deep : depth_s f.body ≤ 16
  pub branches : ifs f.body ≤ 8
  pub loops : fors f.body ≤ 8

pub data InFuncs : Env → List Func → Type 0 where
  none_left : {v : Env} → InFuncs v []
  one_more : {v : Env} {f : Func} {fs : List Func} → InFunc v f → InFuncs (passed v (head_of f)) fs → InFuncs v (f ∷ fs)

pub data InArrays : List ℕ → Type 0 where
  no_array : InArrays []
  an_array : {n : ℕ} {lengths : List ℕ} → 1 ≤ n → n ≤ 4096 → InArrays lengths → InArrays (n ∷ lengths)

-- a program within the ranges and depths of 01, whose table is no longer than 4096 records
pub record Within (p : Program) : Type 0 where
  pub some : 1 ≤ length p.funcs
  pub functions : length p.funcs ≤ 16
  pub arrays : length p.arrays ≤ 8
  pub lengths : InArrays p.arrays
  pub funcs : InFuncs (nowhere (length p.arrays)) p.funcs
  pub short : length (listing p) ≤ 4096
