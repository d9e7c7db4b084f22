-- The core functions that come out fit what the check asks for: fields in their ranges (25), FORs (27) and operands (28). Assumes nothing.
use Prim.Native.Nat.{ℕ, zero, suc, ◌+◌, ◌≤◌, ◌<◌}
use mathlib.Core.List.{List, [], ◌∷◌, map}
use native.Mathlib.Omega.{arith}
use lib.Dec.{lit≤}
use lib.ListN.{get_or, set as put_at, replicate}
use Rattle.word.specs.Value.{Op, add, sub, mul, shl, shr, and, or, eq, ne, gt, lt, ge, le, land, lor}
use Rattle.word.specs.Code.{code}
use Rattle.script.specs.Tree.{Expr, num, tru, fls, var, get, lnot, bnot, bin, call, Exprs, none, more, Stmt, skip, seq, def, set, put, for, if, return, Stmts, done, next, Func}
use Rattle.script.specs.Parse.{entered, passed, nowhere}
use Rattle.script.specs.Written.{fors, fors_all, InE, InEs, Inside, Insides, head_of, InFunc, InFuncs, none_left, one_more}
use Rattle.script.specs.declared.Env.{Env}
use Rattle.tape.specs.Core.{CExpr, VAR, GET}
use Rattle.tape.proofs.Limits.{Each, none as no_func, one as a_func, height_e, FitsE, FitsEs, FitsS, FitsF}
use Rattle.translation.specs.Translate.{lowered, layout, EXT, EXTs, context, masking, merge, STT, STTs, depth, depths, FDEFT}
use Rattle.translation.proofs.Relation.{condition}
use Rattle.translation.proofs.Heights.{depth_ifs, slots_most, height_most, context_height, masking_height, merge_height}

-- "14 becomes 6, 15 becomes 7"
lowered_code_lem : (o : Op) → code (lowered o) ≤ 13
unfolding code lowered
lowered_code_lem add = lit≤ tt
lowered_code_lem sub = lit≤ tt
lowered_code_lem mul = lit≤ tt
lowered_code_lem shl = lit≤ tt
lowered_code_lem shr = lit≤ tt
lowered_code_lem and = lit≤ tt
lowered_code_lem or = lit≤ tt
lowered_code_lem eq = lit≤ tt
lowered_code_lem ne = lit≤ tt
lowered_code_lem gt = lit≤ tt
lowered_code_lem lt = lit≤ tt
lowered_code_lem ge = lit≤ tt
lowered_code_lem le = lit≤ tt
lowered_code_lem land = lit≤ tt
lowered_code_lem lor = lit≤ tt

and_code : code and ≤ 13
unfolding code
and_code = lit≤ tt

or_code : code or ≤ 13
unfolding code
or_code = lit≤ tt

-- in a function with n slots, q of them on the tape
module _ (v : Env) (q : ℕ) (room : v.slots + 2 ≤ q) where
  abbrev n : ℕ
  n = v.slots

  abbrev Fits : CExpr → Type 0
  Fits e = FitsE q v.arrays e

  mutual
    unfolding EXT InE FitsE

    expr_fits : (e : Expr) → InE v e → Fits (EXT e)
    expr_fits (num x) i = tt
    expr_fits tru i = tt
    expr_fits fls i = tt
    expr_fits (var x) i = omega arith
    expr_fits (get a j) i = (i.0, expr_fits j i.1)
    expr_fits (lnot e) i = expr_fits e i
    expr_fits (bnot e) i = expr_fits e i
    expr_fits (bin o l r) i = (lowered_code_lem o, expr_fits l i.0, expr_fits r i.1)
    expr_fits (call f es) i = exprs_fit es i.2

    exprs_fit : (es : Exprs) → InEs v es → FitsEs q v.arrays (EXTs es)
    exprs_fit none i = tt
    exprs_fit (more e es) i = (expr_fits e i.0, exprs_fit es i.1)

  context_fits : (d : ℕ) → n + 2 + d ≤ q → Fits (context (layout n) d)
  unfolding context FitsE
  context_fits zero l = tt
  context_fits (suc d) l = (and_code, omega arith, context_fits d (omega arith))

  module _ (d : ℕ) (l : n + 2 + d ≤ q) where
    masking_fits : Fits (masking (layout n) d)
    unfolding masking FitsE
    masking_fits = (and_code, context_fits d l, omega arith)

    merge_fits : (e old : CExpr) → Fits e → Fits old → Fits (merge (layout n) d e old)
    unfolding merge FitsE
    merge_fits e old h g = (or_code, (and_code, h, masking_fits), (and_code, g, masking_fits))

  -- under d IFs and so many FORs
  module _ (few : (f : ℕ) → get_or v.params f 0 ≤ 8) where
    mutual
      unfolding STT depth fors Inside FitsS FitsE height_e

      stmt_fits : (s : Stmt) (d loops : ℕ) → n + 2 + d + depth s ≤ q → d + depth s ≤ 8 → loops + fors s ≤ 8 → Inside v s
          → FitsS q v.arrays loops (STT (layout n) d s)
      stmt_fits skip d loops l b m i = tt
      stmt_fits (seq ss) d loops l b m i = stmts_fit ss d loops l b m i.2
      stmt_fits (def x e) d loops l b m i = (omega (arith, i.0), omega (arith, height_most v few e i.1), expr_fits e i.1.0)
      stmt_fits (set x e) d loops l b m i =
          let low : x < q = omega (arith, i.0) in
          let high = merge_height n d (EXT e) (VAR x) (omega arith) (height_most v few e i.1) (omega arith) in
          (low, omega arith, merge_fits d (omega arith) (EXT e) (VAR x) (expr_fits e i.1.0) low)
      stmt_fits (put a j e) d loops l b m i =
          let index = expr_fits j i.1.0 in
          let below = height_most v few j i.1 in
          let high = merge_height n d (EXT e) (GET a (EXT j)) (omega arith) (height_most v few e i.2) below in
          (i.0, omega arith, index, merge_fits d (omega arith) (EXT e) (GET a (EXT j)) (expr_fits e i.2.0) (i.0, index))
      stmt_fits (for x from to s) d loops l b m i = (omega (arith, i.0), omega arith, stmt_fits s d (suc loops) l b (omega arith) i.3)
      stmt_fits (if c s t) d loops l b m i =
          let slot : condition n d < q = omega arith in
          let first = stmt_fits s (suc d) loops (omega arith) (omega arith) (omega arith) i.1 in
          let second = stmt_fits t (suc d) loops (omega arith) (omega arith) (omega arith) i.2 in
          ((slot, omega (arith, height_most v few c i.0), expr_fits c i.0.0), (first, ((slot, lit≤ tt, slot), second)))
      stmt_fits (return e) d loops l b m i =
          let low : n + 2 + d ≤ q = omega arith in
          let high = height_most v few e i in (
            (omega arith, omega (arith, masking_height n d), (or_code, (and_code, expr_fits e i.0, masking_fits d low), omega arith)),
            (omega arith, omega (arith, context_height n d d), (and_code, omega arith, context_fits d low)),
          )

      stmts_fit : (ss : Stmts) (d loops : ℕ) → n + 2 + d + depths ss ≤ q → d + depths ss ≤ 8 → loops + fors_all ss ≤ 8 → Insides v ss
          → FitsS q v.arrays loops (STTs (layout n) d ss)
      stmts_fit done d loops l b m i = tt
      stmts_fit (next s ss) d loops l b m i =
          (stmt_fits s d loops (omega arith) (omega arith) (omega arith) i.0, stmts_fit ss d loops (omega arith) (omega arith) (omega arith) i.1)

-- ---- functions
func_fits : {v : Env} (f : Func) → ((g : ℕ) → get_or v.params g 0 ≤ 8) → InFunc v f → FitsF v.arrays (FDEFT f)
unfolding FDEFT FitsS FitsE height_e entered
func_fits {v} f few h =
    let q = (FDEFT f).slots in
    let most : q ≤ 42 = slots_most f h in
    let branches : depth f.body ≤ 8 = omega (arith, depth_ifs f.body, h.branches) in
    let body = stmt_fits (entered v (head_of f)) q (omega arith) few f.body 0 0 (omega arith) (omega arith) (omega (arith, h.loops)) h.body in
    record {
      params = h.few;
      among = omega (arith, h.room);
      slots = omega arith;
      body = ((omega arith, lit≤ tt, tt), ((omega arith, lit≤ tt, tt), body));
      ret = omega arith;
    }

-- no function has more than 8 parameters, before the first and past each
few_first : (n g : ℕ) → get_or (replicate n 0) g 0 ≤ 8
few_first zero g = lit≤ tt
few_first (suc n) zero = lit≤ tt
few_first (suc n) (suc g) = few_first n g

few_more : (ps : List ℕ) (k p : ℕ) → ((g : ℕ) → get_or ps g 0 ≤ 8) → p ≤ 8 → (g : ℕ) → get_or (put_at ps k p) g 0 ≤ 8
few_more [] k p h l g = h g
few_more (x ∷ ps) zero p h l zero = l
few_more (x ∷ ps) zero p h l (suc g) = h (suc g)
few_more (x ∷ ps) (suc k) p h l zero = h 0
few_more (x ∷ ps) (suc k) p h l (suc g) = few_more ps k p (λ i. h (suc i)) l g

funcs_fit : {v : Env} {fs : List Func} → ((g : ℕ) → get_or v.params g 0 ≤ 8) → InFuncs v fs → Each (FitsF v.arrays) (map FDEFT fs)
unfolding passed
funcs_fit few none_left = no_func
funcs_fit {v} few (one_more {f} h r) = a_func (func_fits f few h) (funcs_fit (few_more v.params v.func f.params few h.few) r)

pub translated_fit : {arrays : ℕ} {fs : List Func} → InFuncs (nowhere arrays) fs → Each (FitsF arrays) (map FDEFT fs)
translated_fit h = funcs_fit (few_first 16) h
