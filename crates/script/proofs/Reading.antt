-- What is read from a table stands there: its records are those of the tree, which is within its ranges and depths. Assumes nothing.
use mathlib.Core.Path.{◌≡◌, refl, ap, ◌∙◌}
use mathlib.Core.Bool.{Bool, true, false}
use Rattle.std.proofs.lemmas.Bool.{and_parts}
use mathlib.Core.List.{List, ◌∷◌}
use Prim.Native.Nat.{ℕ, zero, suc, ◌+◌, ◌-◌, ◌*◌, ◌^◌, ◌≤◌, ◌<◌}
use native.Mathlib.Omega.{arith}
use borrow.Author.Tests.{ltb-true, leb-true}
use lib.Dec.{ltb, leb}
use lib.ListN.{get_or}
use Rattle.word.specs.declared.Record.{Record}
use Rattle.word.proofs.Laws.{word, code_op}
use Rattle.word.proofs.Memory.{Words, words_val}
use Rattle.script.specs.Tree.{Expr, Exprs, Stmt, skip, def, set, put, return, Stmts, size_e, size_es, size_s, size_ss}
use Rattle.script.specs.Table.{HeadE, NUM, TRUE, FALSE, VAR, GET, LNOT, BNOT, BIN, CALL, HeadS, SKIP, SEQ, DEF, SET, PUT, FOR, IF, RETURN, write_e, range_e, write_s, range_s, expression, statement, Lead, node, fault, lead}
use Rattle.script.specs.Parse.{Parsed, parsed, parts, build_e, enter_e, too_deep, parse_e, Nest, nests, inside, sequence, build_s, enter_if, enter_s, parse_s}
use Rattle.script.specs.Written.{count_e, count_s, list_e, list_es, list_s, list_ss, depth_e, depth_es, depth_s, depth_ss, ifs, ifs_all, fors, fors_all, InE, InEs, Inside, Insides}
use Rattle.script.specs.declared.Env.{Env}
use Rattle.script.proofs.Leading.{from, first_from, leads, expression_lawful, statement_lawful, never, as_parsed, then_parsed, node_parsed}

-- ---- a tree stands at a record of the table, up to another; its numbers are words where the table's are
module _ (t : List ℕ) (v : Env) where
  -- with so much depth left, this one counted
  pub record ExprAt (left at : ℕ) (x : Expr) (end : ℕ) : Type 0 where
    pub is : from t at ≡ list_e x (from t end)
    pub deep : depth_e x ≤ left
    pub fits : Words t → InE v x
    pub ends : end ≡ at + size_e x

  -- so many
  pub record ExprsAt (left n at : ℕ) (xs : Exprs) (end : ℕ) : Type 0 where
    pub is : from t at ≡ list_es xs (from t end)
    pub count : count_e xs ≡ n
    pub deep : depth_es xs ≤ left
    pub fits : Words t → InEs v xs
    pub ends : end ≡ at + size_es xs

  -- and so many IFs and FORs round it
  pub record StmtAt (left : ℕ) (n : Nest) (at : ℕ) (x : Stmt) (end : ℕ) : Type 0 where
    pub is : from t at ≡ list_s x (from t end)
    pub deep : depth_s x ≤ left
    pub branches : ifs x ≤ 8 - n.ifs
    pub loops : fors x ≤ 8 - n.fors
    pub fits : Words t → Inside v x
    pub ends : end ≡ at + size_s x

  pub record StmtsAt (left : ℕ) (n : Nest) (so_many at : ℕ) (xs : Stmts) (end : ℕ) : Type 0 where
    pub is : from t at ≡ list_ss xs (from t end)
    pub count : count_s xs ≡ so_many
    pub deep : depth_ss xs ≤ left
    pub branches : ifs_all xs ≤ 8 - n.ifs
    pub loops : fors_all xs ≤ 8 - n.fors
    pub fits : Words t → Insides v xs
    pub ends : end ≡ at + size_ss xs

-- nothing is read at depth 0
pub deep_never : {A B : Type 0} (at : ℕ) (l : Lead A) {b : B} {j : ℕ} → too_deep at l ≡ parsed b j → ⊥
unfolding too_deep
deep_never at (node h) e = never e
deep_never at (fault number place) e = never e

-- nor where too many IFs or FORs lie round
pub nested_parsed : (b : Bool) (at : ℕ) (p : Parsed Stmt) {x : Stmt} {j : ℕ} → enter_if b at p ≡ parsed x j → (b ≡ true) × (p ≡ parsed x j)
unfolding enter_if
nested_parsed true at p e = (refl, e)
nested_parsed false at p e = absurd (never e)

module _ (t : List ℕ) (v : Env) where
  -- ---- expressions
  module _ (left : ℕ) (f : ℕ → Parsed Expr) (r : (i : ℕ) (x : Expr) (j : ℕ) → f i ≡ parsed x j → ExprAt t v left i x j) where
    parts_read : (n at : ℕ) (xs : Exprs) (j : ℕ) → parts f n at ≡ parsed xs j → ExprsAt t v left n at xs j
    unfolding parts list_e count_e depth_e InE size_e
    parts_read zero at xs j e =
        as_parsed (ExprsAt t v left 0 at) e (record { is = refl; count = refl; deep = omega arith; fits = λ w. tt; ends = omega arith })
    parts_read (suc n) at xs j e =
        let (y, m, p, e₁) = then_parsed (f at) e in
        let (ys, k, q, e₂) = then_parsed (parts f n m) e₁ in
        let a = r at y m p in
        let b = parts_read n m ys k q in
        as_parsed (ExprsAt t v left (suc n) at) e₂
        (record {
          is = a.is ∙ ap (list_e y) b.is;
          count = ap suc b.count;
          deep = omega arith;
          fits = λ w. (a.fits w, b.fits w);
          ends = omega arith;
        })

    build_read : (at : ℕ) (h : HeadE) → from t at ≡ write_e h ∷ from t (at + 1) → range_e v h ≡ true
        → (x : Expr) (j : ℕ) → build_e f v (at + 1) h ≡ parsed x j → ExprAt t v (suc left) at x j
    unfolding build_e write_e range_e list_e depth_e InE size_e
    build_read at (NUM n) is range x j e =
        let p : get_or t (at * 4 + 1) 0 ≡ n = ap (λ (y : Record). y.p) (first_from t at is).1 in
        let small : Words t → n < 2 ^ 32 = λ w. rw p at (word (words_val w (at * 4 + 1))) in
        as_parsed (ExprAt t v (suc left) at) e (record { is = is; deep = omega arith; fits = small; ends = refl })
    build_read at TRUE is range x j e =
        as_parsed (ExprAt t v (suc left) at) e (record { is = is; deep = omega arith; fits = λ w. tt; ends = refl })
    build_read at FALSE is range x j e =
        as_parsed (ExprAt t v (suc left) at) e (record { is = is; deep = omega arith; fits = λ w. tt; ends = refl })
    build_read at (VAR y) is range x j e =
        as_parsed (ExprAt t v (suc left) at) e (record { is = is; deep = omega arith; fits = λ w. ltb-true y v.slots range; ends = refl })
    build_read at (GET b) is range x j e =
        let (y, m, p, e₁) = then_parsed (f (at + 1)) e in
        let a = r (at + 1) y m p in
        as_parsed (ExprAt t v (suc left) at) e₁
        (record { is = is ∙ ap (write_e (GET b) ∷◌) a.is; deep = omega arith; fits = λ w. (ltb-true b v.arrays range, a.fits w); ends = omega arith })
    build_read at LNOT is range x j e =
        let (y, m, p, e₁) = then_parsed (f (at + 1)) e in
        let a = r (at + 1) y m p in
        as_parsed (ExprAt t v (suc left) at) e₁
        (record { is = is ∙ ap (write_e LNOT ∷◌) a.is; deep = omega arith; fits = a.fits; ends = omega arith })
    build_read at BNOT is range x j e =
        let (y, m, p, e₁) = then_parsed (f (at + 1)) e in
        let a = r (at + 1) y m p in
        as_parsed (ExprAt t v (suc left) at) e₁
        (record { is = is ∙ ap (write_e BNOT ∷◌) a.is; deep = omega arith; fits = a.fits; ends = omega arith })
    build_read at (BIN o) is range x j e =
        let (y, m, p, e₁) = then_parsed (f (at + 1)) e in
        let (z, k, q, e₂) = then_parsed (f m) e₁ in
        let a = r (at + 1) y m p in
        let b = r m z k q in
        let (low, high) = and_parts (leb 1 o) (leb o 15) range in
        as_parsed (ExprAt t v (suc left) at) e₂
        (record {
          is = rw (code_op o (leb-true 1 o low) (leb-true o 15 high)) (is ∙ ap (write_e (BIN o) ∷◌) (a.is ∙ ap (list_e y) b.is));
          deep = omega arith;
          fits = λ w. (a.fits w, b.fits w);
          ends = omega arith;
        })
    build_read at (CALL g) is range x j e =
        let (ys, m, p, e₁) = then_parsed (parts f (get_or v.params g 0) (at + 1)) e in
        let a = parts_read (get_or v.params g 0) (at + 1) ys m p in
        as_parsed (ExprAt t v (suc left) at) e₁
        (record {
          is = is ∙ ap (write_e (CALL g) ∷◌) a.is;
          deep = omega arith;
          fits = λ w. (ltb-true g v.func range, a.count, a.fits w);
          ends = omega arith;
        })

  pub expr_read : (left at : ℕ) (x : Expr) (j : ℕ) → parse_e left v t at ≡ parsed x j → ExprAt t v left at x j
  unfolding parse_e enter_e expression
  expr_read zero at x j e = absurd (deep_never at (lead expression v t at) e)
  expr_read (suc left) at x j e =
      let (h, q, e₁) = node_parsed (enter_e (parse_e left v t) v at) (λ n p. refl) (lead expression v t at) e in
      let (is, range) = (leads t at expression_lawful v h).0 q in
      build_read left (parse_e left v t) (expr_read left) at h is range x j e₁

  -- ---- statements
  sequence_read : (left : ℕ) (n : Nest) (f : ℕ → Parsed Stmt) → ((i : ℕ) (x : Stmt) (j : ℕ) → f i ≡ parsed x j → StmtAt t v left n i x j)
      → (count at : ℕ) (xs : Stmts) (j : ℕ) → sequence f count at ≡ parsed xs j → StmtsAt t v left n count at xs j
  unfolding sequence list_s count_s depth_s ifs fors Inside size_s
  sequence_read left n f r zero at xs j e =
      as_parsed (StmtsAt t v left n 0 at) e
      (record { is = refl; count = refl; deep = omega arith; branches = omega arith; loops = omega arith; fits = λ w. tt; ends = omega arith })
  sequence_read left n f r (suc count) at xs j e =
      let (y, m, p, e₁) = then_parsed (f at) e in
      let (ys, k, q, e₂) = then_parsed (sequence f count m) e₁ in
      let a = r at y m p in
      let b = sequence_read left n f r count m ys k q in
      as_parsed (StmtsAt t v left n (suc count) at) e₂
      (record {
        is = a.is ∙ ap (list_s y) b.is;
        count = ap suc b.count;
        deep = omega arith;
        branches = omega arith;
        loops = omega arith;
        fits = λ w. (a.fits w, b.fits w);
        ends = omega arith;
      })

  -- a statement that has no statements in it
  plain_read : (left : ℕ) (n : Nest) (at : ℕ) (x : Stmt) (j : ℕ) → from t at ≡ list_s x (from t j) → depth_s x ≡ 1 → ifs x ≡ 0 → fors x ≡ 0
      → (Words t → Inside v x) → j ≡ at + size_s x → StmtAt t v (suc left) n at x j
  plain_read left n at x j is d b l i e = record { is = is; deep = omega arith; branches = omega arith; loops = omega arith; fits = i; ends = e }

  module _ (left : ℕ) (n : Nest) (at : ℕ) where
    abbrev Read : Stmt → ℕ → Type 0
    Read x j = StmtAt t v (suc left) n at x j

    build_stmt : (f : ℕ → Parsed Stmt) (h : HeadS) → ((i : ℕ) (x : Stmt) (j : ℕ) → f i ≡ parsed x j → StmtAt t v left (inside n h) i x j)
        → from t at ≡ write_s h ∷ from t (at + 1) → range_s v h ≡ true → nests n h ≡ true
        → (x : Stmt) (j : ℕ) → build_s (parse_e 16 v t) f (at + 1) h ≡ parsed x j → Read x j
    unfolding build_s write_s range_s nests inside list_s depth_s ifs fors Inside size_s
    build_stmt f SKIP r is range nested x j e = as_parsed Read e (plain_read left n at skip (at + 1) is refl refl refl (λ w. tt) refl)
    build_stmt f (SEQ p) r is range nested x j e =
        let (ys, m, q, e₁) = then_parsed (sequence f p (at + 1)) e in
        let a = sequence_read left n f r p (at + 1) ys m q in
        let (low, high) = and_parts (leb 2 p) (leb p 256) range in
        let c = a.count in
        as_parsed Read e₁
        (record {
          is = rw c (is ∙ ap (write_s (SEQ p) ∷◌) a.is);
          deep = omega arith;
          branches = a.branches;
          loops = a.loops;
          fits = λ w. (rw c (leb-true 2 p low), rw c (leb-true p 256 high), a.fits w);
          ends = omega arith;
        })
    build_stmt f (DEF y) r is range nested x j e =
        let (z, m, q, e₁) = then_parsed (parse_e 16 v t (at + 1)) e in
        let a = expr_read 16 (at + 1) z m q in
        as_parsed Read e₁
        (plain_read left n at (def y z) m (is ∙ ap (write_s (DEF y) ∷◌) a.is) refl refl refl
        (λ w. (ltb-true y v.slots range, (a.fits w, a.deep))) (omega arith))
    build_stmt f (SET y) r is range nested x j e =
        let (z, m, q, e₁) = then_parsed (parse_e 16 v t (at + 1)) e in
        let a = expr_read 16 (at + 1) z m q in
        as_parsed Read e₁
        (plain_read left n at (set y z) m (is ∙ ap (write_s (SET y) ∷◌) a.is) refl refl refl
        (λ w. (ltb-true y v.slots range, (a.fits w, a.deep))) (omega arith))
    build_stmt f (PUT y) r is range nested x j e =
        let (z, m, q, e₁) = then_parsed (parse_e 16 v t (at + 1)) e in
        let (u, k, p, e₂) = then_parsed (parse_e 16 v t m) e₁ in
        let a = expr_read 16 (at + 1) z m q in
        let b = expr_read 16 m u k p in
        as_parsed Read e₂
        (plain_read left n at (put y z u) k (is ∙ ap (write_s (PUT y) ∷◌) (a.is ∙ ap (list_e z) b.is)) refl refl refl
        (λ w. (ltb-true y v.arrays range, (a.fits w, a.deep), (b.fits w, b.deep))) (omega arith))
    build_stmt f (FOR y lo hi) r is range nested x j e =
        let (s, m, q, e₁) = then_parsed (f (at + 1)) e in
        let a = r (at + 1) s m q in
        let (slot, order) = and_parts (ltb y v.slots) (leb lo hi) range in
        let p : get_or t (at * 4 + 3) 0 ≡ hi = ap (λ (z : Record). z.r) (first_from t at is).1 in
        let small : Words t → hi < 2 ^ 32 = λ w. rw p at (word (words_val w (at * 4 + 3))) in
        as_parsed Read e₁
        (record {
          is = is ∙ ap (write_s (FOR y lo hi) ∷◌) a.is;
          deep = omega arith;
          branches = a.branches;
          loops = omega (arith, ltb-true n.fors 8 nested, a.loops);
          fits = λ w. (ltb-true y v.slots slot, leb-true lo hi order, small w, a.fits w);
          ends = omega arith;
        })
    build_stmt f IF r is range nested x j e =
        let (c, m, q, e₁) = then_parsed (parse_e 16 v t (at + 1)) e in
        let (s, k, p, e₂) = then_parsed (f m) e₁ in
        let (u, l, o, e₃) = then_parsed (f k) e₂ in
        let a = expr_read 16 (at + 1) c m q in
        let first = r m s k p in
        let second = r k u l o in
        as_parsed Read e₃
        (record {
          is = is ∙ ap (write_s IF ∷◌) (a.is ∙ ap (list_e c) (first.is ∙ ap (list_s s) second.is));
          deep = omega arith;
          branches = omega (arith, ltb-true n.ifs 8 nested, first.branches, second.branches);
          loops = omega arith;
          fits = λ w. ((a.fits w, a.deep), first.fits w, second.fits w);
          ends = omega arith;
        })
    build_stmt f RETURN r is range nested x j e =
        let (z, m, q, e₁) = then_parsed (parse_e 16 v t (at + 1)) e in
        let a = expr_read 16 (at + 1) z m q in
        as_parsed Read e₁
        (plain_read left n at (return z) m (is ∙ ap (write_s RETURN ∷◌) a.is) refl refl refl (λ w. (a.fits w, a.deep)) (omega arith))

  pub stmt_read : (left : ℕ) (n : Nest) (at : ℕ) (x : Stmt) (j : ℕ) → parse_s left n v t at ≡ parsed x j → StmtAt t v left n at x j
  unfolding parse_s enter_s statement
  stmt_read zero n at x j e = absurd (deep_never at (lead statement v t at) e)
  stmt_read (suc left) n at x j e =
      let g = parse_e 16 v t in
      let f : Nest → ℕ → Parsed Stmt = λ m i. parse_s left m v t i in
      let (h, q, e₁) = node_parsed (enter_s g f n at) (λ k p. refl) (lead statement v t at) e in
      let (is, range) = (leads t at statement_lawful v h).0 q in
      let (nested, e₂) = nested_parsed (nests n h) at _ e₁ in
      build_stmt left n at (f (inside n h)) h (stmt_read left (inside n h)) is range nested x j e₂
