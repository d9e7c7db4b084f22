-- Where a tree's records stand in a table, the walk over them lays its translation, and leaves the reader past it. Assumes nothing.
use mathlib.Core.Path.{◌≡◌, refl, sym, ap, ◌∙◌}
use mathlib.Core.List.{List, ◌∷◌}
use Prim.Native.Nat.{ℕ, suc, ◌+◌, ◌-◌, ◌≤◌}
use native.Mathlib.Omega.{arith}
use Rattle.word.specs.Value.{Op, add, sub, mul, shl, shr, and, or, eq, ne, gt, lt, ge, le, land, lor}
use Rattle.word.specs.Code.{code}
use Rattle.word.specs.declared.Record.{Record}
use Rattle.script.specs.Tree.{Expr, num, tru, fls, var, get, lnot, bnot, bin, call, Exprs, none, more, Stmt, skip, seq, def, set, put, for, if, return, Stmts, done, next, size_e, size_es, size_s, size_ss}
use Rattle.script.specs.Table.{HeadE, NUM, TRUE, FALSE, VAR, GET, LNOT, BNOT, BIN, CALL, HeadS, SKIP, SEQ, DEF, SET, PUT, FOR, IF, RETURN, write_e, write_s, expression, statement}
use Rattle.script.specs.Written.{count_e, count_s, list_e, list_es, list_s, list_ss, depth_e, depth_es, depth_s, depth_ss, InE, InEs, Inside, Insides}
use Rattle.script.specs.declared.Env.{Env}
use Rattle.script.proofs.Leading.{from, expression_lawful, statement_lawful}
use Rattle.scoping.proofs.Found.{finds}
use Rattle.tape.specs.Instruction.{def as core_def, end as core_end}
use Rattle.translation.specs.Translate.{lowered, EXT, EXTs, layout, merge, STT, STTs}
use Rattle.emitting.specs.Emitting.{Sheet, puts, lay_e, lay_es, lay_s, masks, merges, assigns, stores, gives, flips}
use Rattle.script.specs.Shape.{parts_in, times}
use Rattle.emitting.specs.Walking.{Desk, desk, on, looping, lowered_code, own, walk_e, putting, branching, head_s, walk_s}
use Rattle.emitting.proofs.Stepping.{walk_e_found, walk_s_found}

-- && and ||, by their codes
lowered_code_lem : (o : Op) → lowered_code (code o) ≡ code (lowered o)
unfolding lowered_code code lowered
lowered_code_lem add = refl
lowered_code_lem sub = refl
lowered_code_lem mul = refl
lowered_code_lem shl = refl
lowered_code_lem shr = refl
lowered_code_lem and = refl
lowered_code_lem or = refl
lowered_code_lem eq = refl
lowered_code_lem ne = refl
lowered_code_lem gt = refl
lowered_code_lem lt = refl
lowered_code_lem ge = refl
lowered_code_lem le = refl
lowered_code_lem land = refl
lowered_code_lem lor = refl

-- ---- what follows an expression is the translation's
module _ (n : ℕ) where
  set_laid : (d x : ℕ) (e : Expr) (s : Sheet) → assigns (layout n) d x (lay_e (EXT e) s) ≡ lay_s (STT (layout n) d (set x e)) s
  unfolding assigns masks merges merge STT lay_e lay_s
  set_laid d x e s = refl

  put_laid : (d a : ℕ) (i e : Expr) (s : Sheet) → stores (layout n) d a (lay_e (EXT i) (masks (layout n) d (lay_e (EXT e) (lay_e (EXT i) s)))) ≡ lay_s (STT (layout n) d (put a i e)) s
  unfolding stores masks merges merge STT lay_e lay_s
  put_laid d a i e s = refl

  return_laid : (d : ℕ) (e : Expr) (s : Sheet) → gives (layout n) d (lay_e (EXT e) s) ≡ lay_s (STT (layout n) d (return e)) s
  unfolding gives masks STT lay_e lay_s
  return_laid d e s = refl

module _ (t : List ℕ) (v : Env) where
  -- what a walk leaves, and what follows
  abbrev Leaves : Desk → Sheet → ℕ → List Record → Type 0
  Leaves z s end rest = (z ≡ desk s end) × (from t end ≡ rest)

  -- ---- expressions
  head_e_lem : (h : HeadE) (left at : ℕ) (s : Sheet) {rest : List Record} → from t at ≡ write_e h ∷ rest → 1 ≤ left
      → (walk_e v.params t left (desk s at) ≡ on (own h) (times (parts_in v.params h) (walk_e v.params t (left - 1)) (desk s (at + 1))))
      × (from t (at + 1) ≡ rest)
  unfolding expression
  head_e_lem h left at s is some =
      let (read, rest) = finds t at is in (
        walk_e_found v.params t left (desk s at) _ _ (omega arith) read
            ∙ ap (λ (g : HeadE). on (own g) (times (parts_in v.params g) (walk_e v.params t (left - 1)) (desk s (at + 1)))) (expression_lawful.again h),
        rest,
      )

  leaf : {z : Desk} {s : Sheet} {i j : ℕ} {rest : List Record} → j ≡ i → Leaves z s i rest → Leaves z s j rest
  leaf e h = rw e h

  mutual
    unfolding list_e depth_e InE size_e count_e own parts_in times EXT lay_e

    expr_walked : (x : Expr) (left at end : ℕ) (s : Sheet) {rest : List Record} → from t at ≡ list_e x rest → depth_e x ≤ left → InE v x → end ≡ at + size_e x
        → Leaves (walk_e v.params t left (desk s at)) (lay_e (EXT x) s) end rest
    expr_walked (num n) left at end s is d i e = leaf e (head_e_lem (NUM n) left at s is d)
    expr_walked tru left at end s is d i e = leaf e (head_e_lem TRUE left at s is d)
    expr_walked fls left at end s is d i e = leaf e (head_e_lem FALSE left at s is d)
    expr_walked (var x) left at end s is d i e = leaf e (head_e_lem (VAR x) left at s is d)
    expr_walked (get a x) left at end s is d i e =
        let (p, then) = head_e_lem (GET a) left at s is (omega arith) in
        let (q, rest) = expr_walked x (left - 1) (at + 1) end s then (omega arith) i.1 (omega arith) in
        (p ∙ ap (on (puts _)) q, rest)
    expr_walked (lnot x) left at end s is d i e =
        let (p, then) = head_e_lem LNOT left at s is (omega arith) in
        let (q, rest) = expr_walked x (left - 1) (at + 1) end s then (omega arith) i (omega arith) in
        (p ∙ ap (on (puts _)) q, rest)
    expr_walked (bnot x) left at end s is d i e =
        let (p, then) = head_e_lem BNOT left at s is (omega arith) in
        let (q, rest) = expr_walked x (left - 1) (at + 1) end s then (omega arith) i (omega arith) in
        (p ∙ ap (on (puts _)) q, rest)
    expr_walked (bin o l r) left at end s is d i e =
        let (p, then) = head_e_lem (BIN (code o)) left at s is (omega arith) in
        let (q, then₁) = expr_walked l (left - 1) (at + 1) (at + 1 + size_e l) s then (omega arith) i.0 refl in
        let (q₁, rest) = expr_walked r (left - 1) (at + 1 + size_e l) end (lay_e (EXT l) s) then₁ (omega arith) i.1 (omega arith) in
        (p ∙ ap (on (own (BIN (code o)))) (ap (walk_e v.params t (left - 1)) q ∙ q₁) ∙ rw (lowered_code_lem o) refl, rest)
    expr_walked (call f xs) left at end s is d i e =
        let (p, then) = head_e_lem (CALL f) left at s is (omega arith) in
        let (q, rest) = exprs_walked xs (left - 1) (at + 1) end s then (omega arith) i.2 (omega arith) in
        (p ∙ ap (on (own (CALL f))) (ap (λ (k : ℕ). times k (walk_e v.params t (left - 1)) (desk s (at + 1))) (sym i.1) ∙ q), rest)

    exprs_walked : (xs : Exprs) (left at end : ℕ) (s : Sheet) {rest : List Record} → from t at ≡ list_es xs rest → depth_es xs ≤ left → InEs v xs → end ≡ at + size_es xs
        → Leaves (times (count_e xs) (walk_e v.params t left) (desk s at)) (lay_es (EXTs xs) s) end rest
    exprs_walked none left at end s is d i e =
        let q : end ≡ at = omega arith in
        rw q (refl, is)
    exprs_walked (more x xs) left at end s is d i e =
        let (q, then) = expr_walked x left at (at + size_e x) s is (omega arith) i.0 refl in
        let (q₁, rest) = exprs_walked xs left (at + size_e x) end (lay_e (EXT x) s) then (omega arith) i.1 (omega arith) in
        (ap (times (count_e xs) (walk_e v.params t left)) q ∙ q₁, rest)

  -- ---- statements, in a function with n slots
  module _ (n : ℕ) where
    head_s_lem : (h : HeadS) (left d at : ℕ) (s : Sheet) {rest : List Record} → from t at ≡ write_s h ∷ rest → 1 ≤ left
        → (walk_s v.params t (layout n) left d (desk s at)
        ≡ head_s v.params t (layout n) (walk_s v.params t (layout n) (left - 1)) d (desk s (at + 1)) h)
        × (from t (at + 1) ≡ rest)
    unfolding statement
    head_s_lem h left d at s is some =
        let (read, rest) = finds t at is in (
          walk_s_found v.params t (layout n) left d (desk s at) _ _ (omega arith) read
              ∙ ap (head_s v.params t (layout n) (walk_s v.params t (layout n) (left - 1)) d (desk s (at + 1))) (statement_lawful.again h),
          rest,
        )

    mutual
      unfolding list_s depth_s Inside size_s count_s head_s times STT lay_s lay_e putting looping branching flips

      pub stmt_walked : (x : Stmt) (left d at end : ℕ) (s : Sheet) {rest : List Record} → from t at ≡ list_s x rest → depth_s x ≤ left → Inside v x → end ≡ at + size_s x
          → Leaves (walk_s v.params t (layout n) left d (desk s at)) (lay_s (STT (layout n) d x) s) end rest
      stmt_walked skip left d at end s is k i e = leaf e (head_s_lem SKIP left d at s is k)
      stmt_walked (seq ss) left d at end s is k i e =
          let (p, then) = head_s_lem (SEQ (count_s ss)) left d at s is (omega arith) in
          let (q, rest) = stmts_walked ss (left - 1) d (at + 1) end s then (omega arith) i.2 (omega arith) in
          (p ∙ q, rest)
      stmt_walked (def x u) left d at end s is k i e =
          let (p, then) = head_s_lem (DEF x) left d at s is k in
          let (q, rest) = expr_walked u 16 (at + 1) end s then i.1.1 i.1.0 (omega arith) in
          (p ∙ ap (on (puts _)) q, rest)
      stmt_walked (set x u) left d at end s is k i e =
          let (p, then) = head_s_lem (SET x) left d at s is k in
          let (q, rest) = expr_walked u 16 (at + 1) end s then i.1.1 i.1.0 (omega arith) in
          (p ∙ ap (on (assigns (layout n) d x)) q ∙ ap (λ (z : Sheet). desk z end) (set_laid n d x u s), rest)
      stmt_walked (put a j u) left d at end s is k i e =
          let (p, then) = head_s_lem (PUT a) left d at s is k in
          let mid = at + 1 + size_e j in
          let (q, then₁) = expr_walked j 16 (at + 1) mid s then i.1.1 i.1.0 refl in
          let (q₁, rest) = expr_walked u 16 mid end (lay_e (EXT j) s) then₁ i.2.1 i.2.0 (omega arith) in
          let value = masks (layout n) d (lay_e (EXT u) (lay_e (EXT j) s)) in
          let again = (expr_walked j 16 (at + 1) mid value then i.1.1 i.1.0 refl).0 in
          (p ∙ rw (q, q₁, again) refl ∙ ap (λ (z : Sheet). desk z end) (put_laid n d a j u s), rest)
      stmt_walked (for x f g b) left d at end s is k i e =
          let (p, then) = head_s_lem (FOR x f g) left d at s is (omega arith) in
          let (q, rest) = stmt_walked b (left - 1) d (at + 1) end _ then (omega arith) i.3 (omega arith) in
          (p ∙ ap (on (puts core_end)) q, rest)
      stmt_walked (if c a b) left d at end s is k i e =
          let (p, then) = head_s_lem IF left d at s is (omega arith) in
          let i₁ = at + 1 + size_e c in
          let i₂ = i₁ + size_s a in
          let (q, then₁) = expr_walked c 16 (at + 1) i₁ s then i.0.1 i.0.0 refl in
          let s₁ = puts (core_def (n + 2 + d)) (lay_e (EXT c) s) in
          let s₂ = flips (layout n) d (lay_s (STT (layout n) (suc d) a) s₁) in
          let (q₁, then₂) = stmt_walked a (left - 1) (suc d) i₁ i₂ s₁ then₁ (omega arith) i.1 refl in
          let (q₂, rest) = stmt_walked b (left - 1) (suc d) i₂ end s₂ then₂ (omega arith) i.2 (omega arith) in
          (p ∙ rw (q, q₁, q₂) refl, rest)
      stmt_walked (return u) left d at end s is k i e =
          let (p, then) = head_s_lem RETURN left d at s is k in
          let (q, rest) = expr_walked u 16 (at + 1) end s then i.1 i.0 (omega arith) in
          (p ∙ ap (on (gives (layout n) d)) q ∙ ap (λ (z : Sheet). desk z end) (return_laid n d u s), rest)

      stmts_walked : (xs : Stmts) (left d at end : ℕ) (s : Sheet) {rest : List Record} → from t at ≡ list_ss xs rest → depth_ss xs ≤ left → Insides v xs
          → end ≡ at + size_ss xs → Leaves (times (count_s xs) (walk_s v.params t (layout n) left d) (desk s at)) (lay_s (STTs (layout n) d xs) s) end rest
      stmts_walked done left d at end s is k i e =
          let q : end ≡ at = omega arith in
          rw q (refl, is)
      stmts_walked (next x xs) left d at end s is k i e =
          let (q, then) = stmt_walked x left d at (at + size_s x) s is (omega arith) i.0 refl in
          let (q₁, rest) = stmts_walked xs left d (at + size_s x) end (lay_s (STT (layout n) d x) s) then (omega arith) i.1 (omega arith) in
          (ap (times (count_s xs) (walk_s v.params t (layout n) left d)) q ∙ q₁, rest)
