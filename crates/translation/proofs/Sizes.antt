-- How many records the translation of each statement has, by its own parts' and the number d of IFs round it; and that the tape of a table of 4096
-- records has under 92,200. Assumes nothing.
use mathlib.Core.Path.{◌≡◌, refl, ap}
use mathlib.Core.List.{List, map}
use Prim.Native.Nat.{ℕ, zero, suc, ◌+◌, ◌*◌, ◌≤◌, ◌<◌}
use native.Mathlib.Omega.{arith}
use lib.ListN.{length}
use Rattle.script.specs.Tree.{Expr, num, tru, fls, var, get, lnot, bnot, bin, call, Exprs, none, more, Stmt, skip, seq, def, set, put, for, if, return, Stmts, done, next, Func, Program, size_e, size_es, size_s, size_ss, size_f}
use Rattle.script.specs.Written.{ifs, ifs_all, InFuncs, none_left, one_more, Within}
use Rattle.script.specs.declared.Env.{Env}
use Rattle.script.proofs.Sizes.{size_fs, listing_size, size_e_some}
use Rattle.tape.specs.Core.{CExpr, VAR, GET}
use Rattle.tape.specs.Tape.{instructions}
use Rattle.tape.proofs.Sizes.{records_e, records_es, records_s, records_f, records_fs, instructions_records}
use Rattle.translation.specs.Translate.{layout, EXT, EXTs, context, masking, merge, STT, STTs, FDEFT, translate}

-- an expression has as many records on the tape as in the table
mutual
  unfolding EXT records_e size_e

  pub expr_records : (e : Expr) → records_e (EXT e) ≡ size_e e
  expr_records (num v) = refl
  expr_records tru = refl
  expr_records fls = refl
  expr_records (var x) = refl
  expr_records (get a i) = ap suc (expr_records i)
  expr_records (lnot e) = ap suc (expr_records e)
  expr_records (bnot e) = ap suc (expr_records e)
  expr_records (bin o l r) = omega (arith, expr_records l, expr_records r)
  expr_records (call f es) = ap suc (exprs_records es)

  exprs_records : (es : Exprs) → records_es (EXTs es) ≡ size_es es
  exprs_records none = refl
  exprs_records (more e es) = omega (arith, expr_records e, exprs_records es)

-- ---- the figures
module _ (n d : ℕ) where
  context_records : (k : ℕ) → records_e (context (layout n) k) ≡ 2 * k + 1
  unfolding context records_e
  context_records zero = refl
  context_records (suc k) = omega (arith, context_records k)

  masking_records : records_e (masking (layout n) d) ≡ 2 * d + 3
  unfolding masking records_e
  masking_records = omega (arith, context_records d)

  merge_records : (e old : CExpr) → records_e (merge (layout n) d e old) ≡ records_e e + records_e old + 10 + 4 * d
  unfolding merge records_e
  merge_records e old = omega (arith, masking_records)

  pub set_records : (x : ℕ) (e : Expr) → records_s (STT (layout n) d (set x e)) ≡ size_e e + 12 + 4 * d
  unfolding STT records_s records_e
  set_records x e = omega (arith, merge_records (EXT e) (VAR x), expr_records e)

  pub put_records : (a : ℕ) (i e : Expr) → records_s (STT (layout n) d (put a i e)) ≡ 2 * size_e i + size_e e + 12 + 4 * d
  unfolding STT records_s records_e
  put_records a i e = omega (arith, merge_records (EXT e) (GET a (EXT i)), expr_records i, expr_records e)

  pub return_records : (e : Expr) → records_s (STT (layout n) d (return e)) ≡ size_e e + 12 + 4 * d
  unfolding STT records_s records_e
  return_records e = omega (arith, masking_records, context_records d, expr_records e)

  pub def_records : (x : ℕ) (e : Expr) → records_s (STT (layout n) d (def x e)) ≡ size_e e + 1
  unfolding STT records_s
  def_records x e = omega (arith, expr_records e)

  pub if_records : (c : Expr) (s t : Stmt) → records_s (STT (layout n) d (if c s t))
      ≡ size_e c + records_s (STT (layout n) (suc d) s) + records_s (STT (layout n) (suc d) t) + 4
  unfolding STT records_s records_e
  if_records c s t = omega (arith, expr_records c)

  pub for_records : (x q r : ℕ) (s : Stmt) → records_s (STT (layout n) d (for x q r s)) ≡ records_s (STT (layout n) d s) + 2
  unfolding STT records_s
  for_records x q r s = omega arith

pub func_records : (f : Func) → records_f (FDEFT f) ≡ records_s (STT (layout f.slots) 0 f.body) + 6
unfolding FDEFT records_f records_s records_e
func_records f = omega arith

-- ---- under 8 IFs, 45 records at most for two of the table: a SET's and its number's
module _ (n : ℕ) where
  mutual
    unfolding STT records_s size_s ifs

    stmt_most : (s : Stmt) (d : ℕ) → d + ifs s ≤ 8 → 2 * records_s (STT (layout n) d s) ≤ 45 * size_s s
    stmt_most skip d l = omega arith
    stmt_most (seq ss) d l = omega (arith, stmts_most ss d l)
    stmt_most (def x e) d l = omega (arith, expr_records e)
    stmt_most (set x e) d l = omega (arith, set_records n d x e, size_e_some e)
    stmt_most (put a i e) d l = omega (arith, put_records n d a i e, size_e_some e)
    stmt_most (for x q r s) d l = omega (arith, stmt_most s d l)
    stmt_most (if c s t) d l = omega (arith, if_records n d c s t, stmt_most s (suc d) (omega arith), stmt_most t (suc d) (omega arith))
    stmt_most (return e) d l = omega (arith, return_records n d e, size_e_some e)

    stmts_most : (ss : Stmts) (d : ℕ) → d + ifs_all ss ≤ 8 → 2 * records_s (STTs (layout n) d ss) ≤ 45 * size_ss ss
    stmts_most done d l = omega arith
    stmts_most (next s ss) d l = omega (arith, stmt_most s d (omega arith), stmts_most ss d (omega arith))

funcs_most : {v : Env} {fs : List Func} → InFuncs v fs → 2 * records_fs (map FDEFT fs) ≤ 45 * size_fs fs
unfolding records_fs size_fs size_f
funcs_most none_left = omega arith
funcs_most (one_more {f} h r) =
    omega (arith, func_records f, stmt_most f.slots f.body 0 (omega (arith, h.branches)), funcs_most r)

pub tape_most : (p : Program) → Within p → length (instructions (translate p)) < 92200
unfolding translate
tape_most p h = omega (arith, instructions_records (translate p), funcs_most h.funcs, listing_size p, h.short)
