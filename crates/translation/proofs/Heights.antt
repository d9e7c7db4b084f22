-- What a compiled tape asks of the machine: 42 slots a function at most, and so many operands that wait while an expression is worked out.
-- Assumes nothing.
use mathlib.Core.Path.{◌≡◌, refl}
use Prim.Native.Nat.{ℕ, zero, suc, ◌+◌, ◌*◌, ◌≤◌, max}
use native.Mathlib.Omega.{arith}
use lib.ListN.{get_or}
use Rattle.script.specs.Tree.{Expr, num, tru, fls, var, get, lnot, bnot, bin, call, Exprs, none, more, Stmt, skip, seq, def, set, put, for, if, return, Stmts, done, next, Func}
use Rattle.script.specs.Written.{count_e, depth_e, depth_es, ifs, ifs_all, InE, InEs, InS, InFunc}
use Rattle.script.specs.declared.Env.{Env}
use Rattle.tape.specs.Core.{CExpr}
use Rattle.tape.proofs.Limits.{height_e, height_es}
use Rattle.translation.specs.Translate.{layout, EXT, EXTs, context, masking, merge, depth, depths, FDEFT}

-- ---- slots
mutual
  unfolding depth ifs

  pub depth_ifs : (s : Stmt) → depth s ≡ ifs s
  depth_ifs skip = refl
  depth_ifs (seq ss) = depths_ifs ss
  depth_ifs (def x e) = refl
  depth_ifs (set x e) = refl
  depth_ifs (put a i e) = refl
  depth_ifs (for x q r s) = depth_ifs s
  depth_ifs (if c s t) = omega (arith, depth_ifs s, depth_ifs t)
  depth_ifs (return e) = refl

  depths_ifs : (ss : Stmts) → depths ss ≡ ifs_all ss
  depths_ifs done = refl
  depths_ifs (next s ss) = omega (arith, depth_ifs s, depths_ifs ss)

pub slots_most : {v : Env} (f : Func) → InFunc v f → (FDEFT f).slots ≤ 42
unfolding FDEFT
slots_most f h = omega (arith, depth_ifs f.body, h.slots, h.branches)

-- ---- operands: 7 wait for each level of calls, at most
depth_some : (e : Expr) → 1 ≤ depth_e e
unfolding depth_e
depth_some (num x) = omega arith
depth_some tru = omega arith
depth_some fls = omega arith
depth_some (var x) = omega arith
depth_some (get a i) = omega arith
depth_some (lnot e) = omega arith
depth_some (bnot e) = omega arith
depth_some (bin o l r) = omega arith
depth_some (call f es) = omega arith

-- no arguments have no depth
some_arguments : (es : Exprs) → count_e es ≤ 8 → count_e es ≤ 8 * depth_es es
unfolding count_e depth_es
some_arguments none l = omega arith
some_arguments (more e es) l = omega (arith, depth_some e)

-- where no function has more than 8 parameters
module _ (v : Env) (few : (f : ℕ) → get_or v.params f 0 ≤ 8) where
  mutual
    unfolding EXT height_e depth_e InE count_e

    expr_height : (e : Expr) → InE v e → height_e (EXT e) + 6 ≤ 7 * depth_e e
    expr_height (num x) i = omega arith
    expr_height tru i = omega arith
    expr_height fls i = omega arith
    expr_height (var x) i = omega arith
    expr_height (get a j) i = omega (arith, expr_height j i.1)
    expr_height (lnot e) i = omega (arith, expr_height e i)
    expr_height (bnot e) i = omega (arith, expr_height e i)
    expr_height (bin o l r) i = omega (arith, expr_height l i.0, expr_height r i.1)
    expr_height (call f es) i =
        let small : count_e es ≤ 8 = omega (arith, i.1, few f) in
        omega (arith, exprs_height es i.2, some_arguments es small)

    exprs_height : (es : Exprs) → InEs v es → height_es (EXTs es) + 7 ≤ 7 * max 1 (depth_es es) + count_e es
    exprs_height none i = omega arith
    exprs_height (more e es) i = omega (arith, expr_height e i.0, exprs_height es i.1)

  pub height_most : (e : Expr) → InS v e → height_e (EXT e) ≤ 106
  height_most e i = omega (arith, expr_height e i.0, i.1)

-- C, M and a masked value
module _ (n d : ℕ) where
  pub context_height : (j : ℕ) → height_e (context (layout n) j) ≤ suc j
  unfolding context height_e
  context_height zero = omega arith
  context_height (suc j) = omega (arith, context_height j)

  pub masking_height : height_e (masking (layout n) d) ≤ d + 2
  unfolding masking height_e
  masking_height = omega (arith, context_height d)

  pub merge_height : (e old : CExpr) → d ≤ 8 → height_e e ≤ 106 → height_e old ≤ 106 → height_e (merge (layout n) d e old) ≤ 107
  unfolding merge height_e
  merge_height e old l h g = omega (arith, masking_height)
