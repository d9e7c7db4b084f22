-- A tree that stands in a table, within its ranges and depths, is read from there. Assumes nothing.
use mathlib.Core.Path.{◌≡◌, refl, ◌∙◌}
use mathlib.Core.Bool.{true}
use Rattle.std.proofs.lemmas.Bool.{and_from}
use mathlib.Core.List.{List, ◌∷◌}
use Prim.Native.Nat.{ℕ, zero, suc, pred, ◌+◌, ◌-◌, ◌≤◌}
use native.Mathlib.Omega.{arith}
use borrow.Author.Tests.{lt-ltb, le-leb}
use Rattle.word.specs.Code.{code}
use Rattle.word.specs.declared.Record.{Record}
use Rattle.word.proofs.Laws.{op_of_code, code_range}
use Rattle.script.specs.Tree.{Expr, num, tru, fls, var, get, lnot, bnot, bin, call, Exprs, none, more, Stmt, skip, seq, def, set, put, for, if, return, Stmts, done, next, size_e, size_es, size_s, size_ss}
use Rattle.script.specs.Table.{HeadE, NUM, TRUE, FALSE, VAR, GET, LNOT, BNOT, BIN, CALL, HeadS, SKIP, SEQ, DEF, SET, PUT, FOR, IF, RETURN, write_e, range_e, write_s, range_s, expression, statement}
use Rattle.script.specs.Parse.{Parsed, parsed, and_then, parts, build_e, enter_e, parse_e, Nest, nests, inside, sequence, build_s, enter_if, enter_s, parse_s}
use Rattle.script.specs.Written.{count_e, count_s, list_e, list_es, list_s, list_ss, depth_e, depth_es, depth_s, depth_ss, ifs, ifs_all, fors, fors_all, InE, InEs, Inside, Insides}
use Rattle.script.specs.declared.Env.{Env}
use Rattle.script.proofs.Leading.{from, leads_on, expression_lawful, statement_lawful}

module _ (t : List ℕ) (v : Env) where
  -- what was read, and what is left
  abbrev Reads : {A : Type 0} → Parsed A → A → ℕ → List Record → Type 0
  Reads p x end rest = (p ≡ parsed x end) × (from t end ≡ rest)

  -- ---- expressions
  head_e_lem : (h : HeadE) (left at : ℕ) {rest : List Record} → from t at ≡ write_e h ∷ rest → range_e v h ≡ true → 1 ≤ left
      → (parse_e left v t at ≡ build_e (parse_e (pred left) v t) v (at + 1) h) × (from t (at + 1) ≡ rest)
  unfolding parse_e enter_e expression
  head_e_lem h zero at is range some = absurd (omega arith)
  head_e_lem h (suc left) at is range some =
      let (q, on) = leads_on t at expression_lawful v h is range in
      (rw q refl, on)

  -- one without parts
  leaf : {A : Type 0} {p : Parsed A} {x : A} {i j : ℕ} {rest : List Record} → j ≡ i → (p ≡ parsed x i) × (from t i ≡ rest) → Reads p x j rest
  leaf e h = rw e h

  mutual
    unfolding list_e depth_e InE size_e count_e range_e build_e parts and_then

    pub expr_written : (x : Expr) (left at end : ℕ) {rest : List Record} → from t at ≡ list_e x rest → depth_e x ≤ left → InE v x → end ≡ at + size_e x
        → Reads (parse_e left v t at) x end rest
    expr_written (num n) left at end is d i e = leaf e (head_e_lem (NUM n) left at is refl d)
    expr_written tru left at end is d i e = leaf e (head_e_lem TRUE left at is refl d)
    expr_written fls left at end is d i e = leaf e (head_e_lem FALSE left at is refl d)
    expr_written (var x) left at end is d i e = leaf e (head_e_lem (VAR x) left at is (lt-ltb x v.slots i) d)
    expr_written (get a x) left at end is d i e =
        let (p, on) = head_e_lem (GET a) left at is (lt-ltb a v.arrays i.0) (omega arith) in
        let (q, rest) = expr_written x (pred left) (at + 1) end on (omega arith) i.1 (omega arith) in
        (p ∙ rw q refl, rest)
    expr_written (lnot x) left at end is d i e =
        let (p, on) = head_e_lem LNOT left at is refl (omega arith) in
        let (q, rest) = expr_written x (pred left) (at + 1) end on (omega arith) i (omega arith) in
        (p ∙ rw q refl, rest)
    expr_written (bnot x) left at end is d i e =
        let (p, on) = head_e_lem BNOT left at is refl (omega arith) in
        let (q, rest) = expr_written x (pred left) (at + 1) end on (omega arith) i (omega arith) in
        (p ∙ rw q refl, rest)
    expr_written (bin o l r) left at end is d i e =
        let range = and_from _ _ (le-leb 1 (code o) (code_range o).0) (le-leb (code o) 15 (code_range o).1) in
        let (p, on) = head_e_lem (BIN (code o)) left at is range (omega arith) in
        let (q, on₁) = expr_written l (pred left) (at + 1) (at + 1 + size_e l) on (omega arith) i.0 refl in
        let (q₁, rest) = expr_written r (pred left) (at + 1 + size_e l) end on₁ (omega arith) i.1 (omega arith) in
        (p ∙ rw (q, q₁, op_of_code o) refl, rest)
    expr_written (call f xs) left at end is d i e =
        let (p, on) = head_e_lem (CALL f) left at is (lt-ltb f v.func i.0) (omega arith) in
        let (q, rest) = exprs_written xs (pred left) (at + 1) end on (omega arith) i.2 (omega arith) in
        (p ∙ rw (← i.1, q) refl, rest)

    pub exprs_written : (xs : Exprs) (left at end : ℕ) {rest : List Record} → from t at ≡ list_es xs rest → depth_es xs ≤ left → InEs v xs → end ≡ at + size_es xs
        → Reads (parts (parse_e left v t) (count_e xs) at) xs end rest
    exprs_written none left at end is d i e =
        let q : end ≡ at = omega arith in
        rw q (refl, is)
    exprs_written (more x xs) left at end is d i e =
        let (q, on) = expr_written x left at (at + size_e x) is (omega arith) i.0 refl in
        let (q₁, rest) = exprs_written xs left (at + size_e x) end on (omega arith) i.1 (omega arith) in
        (rw (q, q₁) refl, rest)

  -- ---- statements
  head_s_lem : (h : HeadS) (left : ℕ) (n : Nest) (at : ℕ) {rest : List Record} → from t at ≡ write_s h ∷ rest → range_s v h ≡ true → nests n h ≡ true → 1 ≤ left
      → (parse_s left n v t at ≡ build_s (parse_e 16 v t) (parse_s (pred left) (inside n h) v t) (at + 1) h) × (from t (at + 1) ≡ rest)
  unfolding parse_s enter_s enter_if statement
  head_s_lem h zero n at is range nested some = absurd (omega arith)
  head_s_lem h (suc left) n at is range nested some =
      let (q, on) = leads_on t at statement_lawful v h is range in
      (rw (q, nested) refl, on)

  mutual
    unfolding list_s depth_s ifs fors Inside size_s count_s range_s nests inside build_s sequence and_then

    pub stmt_written : (x : Stmt) (left : ℕ) (n : Nest) (at end : ℕ) {rest : List Record} → from t at ≡ list_s x rest → depth_s x ≤ left
        → ifs x ≤ 8 - n.ifs → fors x ≤ 8 - n.fors → Inside v x → end ≡ at + size_s x → Reads (parse_s left n v t at) x end rest
    stmt_written skip left n at end is d b l i e = leaf e (head_s_lem SKIP left n at is refl refl d)
    stmt_written (seq ss) left n at end is d b l i e =
        let range = and_from _ _ (le-leb 2 (count_s ss) i.0) (le-leb (count_s ss) 256 i.1) in
        let (p, on) = head_s_lem (SEQ (count_s ss)) left n at is range refl (omega arith) in
        let (q, rest) = stmts_written ss (pred left) n (at + 1) end on (omega arith) b l i.2 (omega arith) in
        (p ∙ rw q refl, rest)
    stmt_written (def x y) left n at end is d b l i e =
        let (p, on) = head_s_lem (DEF x) left n at is (lt-ltb x v.slots i.0) refl d in
        let (q, rest) = expr_written y 16 (at + 1) end on i.1.1 i.1.0 (omega arith) in
        (p ∙ rw q refl, rest)
    stmt_written (set x y) left n at end is d b l i e =
        let (p, on) = head_s_lem (SET x) left n at is (lt-ltb x v.slots i.0) refl d in
        let (q, rest) = expr_written y 16 (at + 1) end on i.1.1 i.1.0 (omega arith) in
        (p ∙ rw q refl, rest)
    stmt_written (put a x y) left n at end is d b l i e =
        let (p, on) = head_s_lem (PUT a) left n at is (lt-ltb a v.arrays i.0) refl d in
        let (q, on₁) = expr_written x 16 (at + 1) (at + 1 + size_e x) on i.1.1 i.1.0 refl in
        let (q₁, rest) = expr_written y 16 (at + 1 + size_e x) end on₁ i.2.1 i.2.0 (omega arith) in
        (p ∙ rw (q, q₁) refl, rest)
    stmt_written (for x lo hi s) left n at end is d b l i e =
        let range = and_from _ _ (lt-ltb x v.slots i.0) (le-leb lo hi i.1) in
        let (p, on) = head_s_lem (FOR x lo hi) left n at is range (lt-ltb n.fors 8 (omega arith)) (omega arith) in
        let (q, rest) = stmt_written s (pred left) (inside n (FOR x lo hi)) (at + 1) end on (omega arith) b (omega arith) i.3 (omega arith) in
        (p ∙ rw q refl, rest)
    stmt_written (if c s u) left n at end is d b l i e =
        let m = at + 1 + size_e c in
        let (p, on) = head_s_lem IF left n at is refl (lt-ltb n.ifs 8 (omega arith)) (omega arith) in
        let (q, on₁) = expr_written c 16 (at + 1) m on i.0.1 i.0.0 refl in
        let (q₁, on₂) = stmt_written s (pred left) (inside n IF) m (m + size_s s) on₁ (omega arith) (omega arith) (omega arith) i.1 refl in
        let (q₂, rest) = stmt_written u (pred left) (inside n IF) (m + size_s s) end on₂ (omega arith) (omega arith) (omega arith) i.2 (omega arith) in
        (p ∙ rw (q, q₁, q₂) refl, rest)
    stmt_written (return y) left n at end is d b l i e =
        let (p, on) = head_s_lem RETURN left n at is refl refl d in
        let (q, rest) = expr_written y 16 (at + 1) end on i.1 i.0 (omega arith) in
        (p ∙ rw q refl, rest)

    stmts_written : (xs : Stmts) (left : ℕ) (n : Nest) (at end : ℕ) {rest : List Record} → from t at ≡ list_ss xs rest → depth_ss xs ≤ left
        → ifs_all xs ≤ 8 - n.ifs → fors_all xs ≤ 8 - n.fors → Insides v xs → end ≡ at + size_ss xs
        → Reads (sequence (parse_s left n v t) (count_s xs) at) xs end rest
    stmts_written done left n at end is d b l i e =
        let q : end ≡ at = omega arith in
        rw q (refl, is)
    stmts_written (next x xs) left n at end is d b l i e =
        let (q, on) = stmt_written x left n at (at + size_s x) is (omega arith) (omega arith) (omega arith) i.0 refl in
        let (q₁, rest) = stmts_written xs left n (at + size_s x) end on (omega arith) (omega arith) (omega arith) i.1 (omega arith) in
        (rw (q, q₁) refl, rest)
