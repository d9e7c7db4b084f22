-- A tree's size is how many records its table has. Assumes nothing.
use mathlib.Core.Path.{◌≡◌, refl}
use mathlib.Core.List.{List, [], ◌∷◌}
use Prim.Native.Nat.{ℕ, suc, ◌+◌, ◌≤◌}
use native.Mathlib.Omega.{arith}
use lib.ListN.{length}
use Rattle.word.specs.declared.Record.{Record}
use Rattle.script.specs.Tree.{Expr, num, tru, fls, var, get, lnot, bnot, bin, call, Exprs, none, more, Stmt, skip, seq, def, set, put, for, if, return, Stmts, done, next, Func, Program, size_e, size_es, size_s, size_ss, size_f}
use Rattle.script.specs.Written.{list_e, list_es, list_s, list_ss, list_arrays, list_funcs, listing}

mutual
  unfolding list_e size_e

  pub list_e_size : (e : Expr) (rest : List Record) → length (list_e e rest) ≡ size_e e + length rest
  list_e_size (num v) rest = omega arith
  list_e_size tru rest = omega arith
  list_e_size fls rest = omega arith
  list_e_size (var x) rest = omega arith
  list_e_size (get a i) rest = omega (arith, list_e_size i rest)
  list_e_size (lnot e) rest = omega (arith, list_e_size e rest)
  list_e_size (bnot e) rest = omega (arith, list_e_size e rest)
  list_e_size (bin o l r) rest = omega (arith, list_e_size l (list_e r rest), list_e_size r rest)
  list_e_size (call f es) rest = omega (arith, list_es_size es rest)

  pub list_es_size : (es : Exprs) (rest : List Record) → length (list_es es rest) ≡ size_es es + length rest
  list_es_size none rest = omega arith
  list_es_size (more e es) rest = omega (arith, list_e_size e (list_es es rest), list_es_size es rest)

mutual
  unfolding list_s size_s

  pub list_s_size : (s : Stmt) (rest : List Record) → length (list_s s rest) ≡ size_s s + length rest
  list_s_size skip rest = omega arith
  list_s_size (seq ss) rest = omega (arith, list_ss_size ss rest)
  list_s_size (def x e) rest = omega (arith, list_e_size e rest)
  list_s_size (set x e) rest = omega (arith, list_e_size e rest)
  list_s_size (put a i e) rest = omega (arith, list_e_size i (list_e e rest), list_e_size e rest)
  list_s_size (for x q r s) rest = omega (arith, list_s_size s rest)
  list_s_size (if c s t) rest = omega (arith, list_e_size c (list_s s (list_s t rest)), list_s_size s (list_s t rest), list_s_size t rest)
  list_s_size (return e) rest = omega (arith, list_e_size e rest)

  pub list_ss_size : (ss : Stmts) (rest : List Record) → length (list_ss ss rest) ≡ size_ss ss + length rest
  list_ss_size done rest = omega arith
  list_ss_size (next s ss) rest = omega (arith, list_s_size s (list_ss ss rest), list_ss_size ss rest)

unfoldable pub size_fs : List Func → ℕ
size_fs [] = 0
size_fs (f ∷ fs) = size_f f + size_fs fs

pub list_funcs_size : (fs : List Func) → length (list_funcs fs) ≡ size_fs fs
unfolding list_funcs size_fs size_f
list_funcs_size [] = refl
list_funcs_size (f ∷ fs) = omega (arith, list_s_size f.body (list_funcs fs), list_funcs_size fs)

list_arrays_size : (lengths : List ℕ) (rest : List Record) → length (list_arrays lengths rest) ≡ length lengths + length rest
unfolding list_arrays
list_arrays_size [] rest = omega arith
list_arrays_size (n ∷ lengths) rest = omega (arith, list_arrays_size lengths rest)

-- PROGRAM, the arrays, the functions
pub listing_size : (p : Program) → length (listing p) ≡ suc (length p.arrays + size_fs p.funcs)
unfolding listing
listing_size p = omega (arith, list_arrays_size p.arrays (list_funcs p.funcs), list_funcs_size p.funcs)

-- an expression has one record at least
pub size_e_some : (e : Expr) → 1 ≤ size_e e
unfolding size_e
size_e_some (num v) = omega arith
size_e_some tru = omega arith
size_e_some fls = omega arith
size_e_some (var x) = omega arith
size_e_some (get a i) = omega arith
size_e_some (lnot e) = omega arith
size_e_some (bnot e) = omega arith
size_e_some (bin o l r) = omega arith
size_e_some (call f es) = omega arith
