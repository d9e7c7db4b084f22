-- Past a tree's records stand those that follow. Assumes nothing.
use Prim.Native.Nat.{ℕ, suc, ◌+◌}
use native.Mathlib.Omega.{arith}
use mathlib.Core.Path.{◌≡◌}
use mathlib.Core.List.{List, ◌∷◌}
use Rattle.word.specs.declared.Record.{Record}
use Rattle.script.specs.Tree.{Expr, num, tru, fls, var, get, lnot, bnot, bin, call, Exprs, none, more, Stmt, skip, seq, def, set, put, for, if, return, Stmts, done, next, size_e, size_es, size_s, size_ss}
use Rattle.script.specs.Written.{list_e, list_es, list_s, list_ss}
use Rattle.script.proofs.Leading.{from, first_from}

module _ (t : List ℕ) where
  on : (at : ℕ) {x : Record} {rest : List Record} → from t at ≡ x ∷ rest → from t (at + 1) ≡ rest
  on at e = (first_from t at e).2

  mutual
    unfolding list_e size_e

    pub past_e : (e : Expr) (at : ℕ) {rest : List Record} → from t at ≡ list_e e rest → from t (at + size_e e) ≡ rest
    past_e (num v) at is = on at is
    past_e tru at is = on at is
    past_e fls at is = on at is
    past_e (var x) at is = on at is
    past_e (get a i) at is = let q : at + suc (size_e i) ≡ at + 1 + size_e i = omega arith in rw q (past_e i (at + 1) (on at is))
    past_e (lnot e) at is = let q : at + suc (size_e e) ≡ at + 1 + size_e e = omega arith in rw q (past_e e (at + 1) (on at is))
    past_e (bnot e) at is = let q : at + suc (size_e e) ≡ at + 1 + size_e e = omega arith in rw q (past_e e (at + 1) (on at is))
    past_e (bin o l r) at is = let q : at + suc (size_e l + size_e r) ≡ at + 1 + size_e l + size_e r = omega arith in rw q (past_e r (at + 1 + size_e l) (past_e l (at + 1) (on at is)))
    past_e (call f es) at is = let q : at + suc (size_es es) ≡ at + 1 + size_es es = omega arith in rw q (past_es es (at + 1) (on at is))

    pub past_es : (es : Exprs) (at : ℕ) {rest : List Record} → from t at ≡ list_es es rest → from t (at + size_es es) ≡ rest
    past_es none at is = let q : at + 0 ≡ at = omega arith in rw q is
    past_es (more e es) at is =
        let q : at + (size_e e + size_es es) ≡ at + size_e e + size_es es = omega arith in
        rw q (past_es es (at + size_e e) (past_e e at is))

  mutual
    unfolding list_s size_s

    pub past_s : (s : Stmt) (at : ℕ) {rest : List Record} → from t at ≡ list_s s rest → from t (at + size_s s) ≡ rest
    past_s skip at is = on at is
    past_s (seq ss) at is = let j : at + suc (size_ss ss) ≡ at + 1 + size_ss ss = omega arith in rw j (past_ss ss (at + 1) (on at is))
    past_s (def x e) at is = let j : at + suc (size_e e) ≡ at + 1 + size_e e = omega arith in rw j (past_e e (at + 1) (on at is))
    past_s (set x e) at is = let j : at + suc (size_e e) ≡ at + 1 + size_e e = omega arith in rw j (past_e e (at + 1) (on at is))
    past_s (put a i e) at is = let j : at + suc (size_e i + size_e e) ≡ at + 1 + size_e i + size_e e = omega arith in rw j (past_e e (at + 1 + size_e i) (past_e i (at + 1) (on at is)))
    past_s (for x q r s) at is = let j : at + suc (size_s s) ≡ at + 1 + size_s s = omega arith in rw j (past_s s (at + 1) (on at is))
    past_s (if c s u) at is = let j : at + suc (size_e c + (size_s s + size_s u)) ≡ at + 1 + size_e c + size_s s + size_s u = omega arith in rw j (past_s u (at + 1 + size_e c + size_s s) (past_s s (at + 1 + size_e c) (past_e c (at + 1) (on at is))))
    past_s (return e) at is = let j : at + suc (size_e e) ≡ at + 1 + size_e e = omega arith in rw j (past_e e (at + 1) (on at is))

    pub past_ss : (ss : Stmts) (at : ℕ) {rest : List Record} → from t at ≡ list_ss ss rest → from t (at + size_ss ss) ≡ rest
    past_ss done at is = let j : at + 0 ≡ at = omega arith in rw j is
    past_ss (next s ss) at is =
        let j : at + (size_s s + size_ss ss) ≡ at + size_s s + size_ss ss = omega arith in
        rw j (past_ss ss (at + size_s s) (past_s s at is))
