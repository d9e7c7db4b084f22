-- Where a statement's records stand, it is counted as its translation's figures are. Assumes nothing.
use mathlib.Core.Path.{◌≡◌, refl, sym, ap, ◌∙◌}
use mathlib.Core.List.{List, ◌∷◌}
use Prim.Native.Nat.{ℕ, suc, ◌+◌, ◌-◌, ◌*◌, ◌≤◌, max}
use native.Mathlib.Omega.{arith}
use lib.ListN.{get_or}
use Rattle.word.specs.declared.Record.{Record}
use Rattle.script.specs.Tree.{Expr, Stmt, skip, seq, def, set, put, for, if, return, Stmts, done, next, size_e, size_s, size_ss}
use Rattle.script.specs.Table.{HeadS, SKIP, SEQ, DEF, SET, PUT, FOR, IF, RETURN, write_s, statement as class}
use Rattle.script.specs.Written.{count_s, list_e, list_s, list_ss, depth_s, depth_ss, InE, Inside, Insides}
use Rattle.script.specs.declared.Env.{Env}
use Rattle.script.proofs.Leading.{from, statement_lawful}
use Rattle.scoping.proofs.Found.{finds}
use Rattle.scoping.proofs.Past.{past_e, past_s}
use Rattle.tape.specs.Steps.{most, steps_e, steps_s}
use Rattle.tape.specs.Held.{hold}
use Rattle.tape.proofs.Counts.{hold_within, hold_hold, hold_loop}
use Rattle.tape.proofs.Sizes.{records_s}
use Rattle.translation.specs.Translate.{EXT, layout, STT, STTs, depth, depths}
use Rattle.translation.proofs.Figures.{set_steps, put_steps, return_steps, if_steps, for_steps}
use Rattle.translation.proofs.Sizes.{set_records, put_records, return_records, def_records, if_records, for_records}
use Rattle.costing.specs.Counting.{count, moved, plus, deeper, past, expression, masked, opened, closed, putting, branching, head, statement}
use Rattle.costing.specs.declared.count.Count.{Count}
use Rattle.costing.proofs.Turns.{statement_found}
use Rattle.costing.proofs.Tallying.{alike, add_held, add_all, Held, nothing_more, expr_counted}
use Rattle.script.specs.Shape.{times}

module _ (v : Env) (κ t : List ℕ) (few : v.func ≤ 16) (n : ℕ) where
  abbrev takes : ℕ → ℕ
  takes f = get_or κ f 0

  abbrev counts : ℕ → ℕ → Count → Count
  counts = statement v.params κ t

  -- the count after a part with so many records, core records, steps and IFs within it
  abbrev laid : ℕ → ℕ → ℕ → ℕ → Count → Count
  laid size records steps deep c = count (c.at.at + size) (hold (c.records + records)) (hold (c.steps + steps)) (max c.deepest deep)

  laid_held : (a r k m : ℕ) (c : Count) → Held (laid a r k m c)
  laid_held a r k m c = (hold_hold (c.records + r), hold_hold (c.steps + k))

  -- the statement's own record
  head_s_lem : (h : HeadS) (left d : ℕ) (c : Count) (rest : List Record) → from t c.at.at ≡ write_s h ∷ rest → 1 ≤ left
      → (counts left d c ≡ head v.params κ t (counts (left - 1)) d (moved (c.at.at + 1) c) h) × (from t (c.at.at + 1) ≡ rest)
  unfolding class
  head_s_lem h left d c rest is some =
      let (read, on) = finds t c.at.at is in (
        statement_found v.params κ t left d c (write_s h) _ (omega arith) read
            ∙ ap (head v.params κ t (counts (left - 1)) d (moved (c.at.at + 1) c)) (statement_lawful.again h),
        on,
      )

  abbrev value : Expr → Count → Count
  value e c = past (size_e e) (steps_e takes (EXT e)) c

  -- an expression, and so much more
  behind : (e : Expr) (r k a r' k' d : ℕ) (c : Count) → a ≡ 1 + size_e e → r' ≡ size_e e + r → k' ≡ steps_e takes (EXT e) + k → d ≤ c.deepest
      → plus r k (value e (moved (c.at.at + 1) c)) ≡ laid a r' k' (d + 0) c
  unfolding plus past
  behind e r k a r' k' d c p q s l = alike (omega arith) (add_held c.records _ r r' q) (add_held c.steps _ k k' s) (omega arith)

  -- PUT: the index, the value, the index again
  put_counted : (a : ℕ) (x e : Expr) (d : ℕ) (c : Count) (rest : List Record) → from t (c.at.at + 1) ≡ list_e x (list_e e rest) → InE v x → InE v e
      → size_e x + size_e e ≤ most → d ≤ c.deepest
      → putting v.params κ t d (moved (c.at.at + 1) c)
      ≡ laid (suc (size_e x + size_e e)) (records_s (STT (layout n) d (put a x e))) (steps_s takes (STT (layout n) d (put a x e))) (d + 0) c
  unfolding putting masked plus past
  put_counted a x e d c rest on i j l m =
      let E = expression v.params κ t in
      let first = moved (c.at.at + 1) c in
      let both = value e (value x first) in
      let read = ap E (expr_counted v κ few t x first (list_e e rest) on i (omega arith))
      ∙ expr_counted v κ few t e (value x first) rest (past_e t x (c.at.at + 1) on) j (omega arith) in
      let again = expr_counted v κ few t x (moved (c.at.at + 1) both) (list_e e rest) on i (omega arith) in
      ap (λ (z : Count). masked d (moved z.at.at (E (moved (c.at.at + 1) z)))) read ∙ ap (λ (z : Count). masked d (moved both.at.at z)) again
      ∙ alike (omega arith) (add_all c.records (size_e x) (size_e e) (size_e x) (4 * d + 12) _ (omega (arith, put_records n d a x e)))
      (add_all c.steps (steps_e takes (EXT x)) (steps_e takes (EXT e)) (steps_e takes (EXT x)) (4 * d + 10) _ (omega (arith, put_steps takes n d a x e))) (omega arith)

  -- FOR, where it is known what its body leaves
  for_counted : (x q r : ℕ) (s : Stmt) (left d : ℕ) (c : Count) → Held c
      → counts left d (opened (moved (c.at.at + 1) c))
      ≡ laid (size_s s) (records_s (STT (layout n) d s)) (steps_s takes (STT (layout n) d s)) (d + depth s) (opened (moved (c.at.at + 1) c))
      → closed c.steps (r - q) (counts left d (opened (moved (c.at.at + 1) c)))
      ≡ laid (suc (size_s s)) (records_s (STT (layout n) d (for x q r s))) (steps_s takes (STT (layout n) d (for x q r s))) (d + depth s) c
  unfolding opened closed
  for_counted x q r s left d c h body =
      let inner = steps_s takes (STT (layout n) d s) in
      let nothing : 0 + inner ≡ inner = omega arith in
      let steps = (λ j. hold (sym h.1 j + (r - q) * suc (hold (nothing j)))) ∙ hold_loop c.steps (r - q) inner ∙ ap (λ (k : ℕ). hold (c.steps + k)) (sym (for_steps takes n d x q r s)) in
      ap (closed c.steps (r - q)) body ∙ alike (omega arith) (add_held c.records 2 _ _ (omega (arith, for_records n d x q r s))) steps refl

  -- IF, where it is known what its branches leave
  if_counted : (e : Expr) (s u : Stmt) (left d : ℕ) (c : Count) (rest : List Record) → from t (c.at.at + 1) ≡ list_e e (list_s s (list_s u rest)) → InE v e → size_e e ≤ most
      → d ≤ c.deepest
      → ((z : Count) → from t z.at.at ≡ list_s s (list_s u rest) → Held z → suc d ≤ z.deepest
      → counts left (suc d) z ≡ laid (size_s s) (records_s (STT (layout n) (suc d) s)) (steps_s takes (STT (layout n) (suc d) s)) (suc d + depth s) z)
      → ((z : Count) → from t z.at.at ≡ list_s u rest → Held z → suc d ≤ z.deepest
      → counts left (suc d) z ≡ laid (size_s u) (records_s (STT (layout n) (suc d) u)) (steps_s takes (STT (layout n) (suc d) u)) (suc d + depth u) z)
      → branching v.params κ t (counts left (suc d)) d (moved (c.at.at + 1) c)
      ≡ laid (suc (size_e e + (size_s s + size_s u))) (records_s (STT (layout n) d (if e s u))) (steps_s takes (STT (layout n) d (if e s u))) (d + suc (max (depth s) (depth u))) c
  unfolding branching deeper plus past
  if_counted e s u left d c rest on i l m then else =
      let f = counts left (suc d) in
      let first = moved (c.at.at + 1) c in
      let z = deeper (suc d) (plus 4 4 (value e first)) in
      let r = records_s (STT (layout n) (suc d) s) in
      let k = steps_s takes (STT (layout n) (suc d) s) in
      let y = laid (size_s s) r k (suc d + depth s) z in
      let at_s = past_e t e (c.at.at + 1) on in
      let at_u = past_s t s (c.at.at + 1 + size_e e) at_s in
      ap (λ (w : Count). f (f (deeper (suc d) (plus 4 4 w)))) (expr_counted v κ few t e first (list_s s (list_s u rest)) on i l)
      ∙ ap f (then z at_s (hold_hold _, hold_hold _) (omega arith)) ∙ else y at_u (laid_held (size_s s) r k (suc d + depth s) z) (omega arith)
      ∙ alike (omega arith) (add_all c.records (size_e e) 4 r _ _ (omega (arith, if_records n d e s u)))
      (add_all c.steps (steps_e takes (EXT e)) 4 k _ _ (omega (arith, if_steps takes n d e s u))) (omega arith)

  mutual
    unfolding list_s depth_s Inside size_s count_s head masked opened depth STT steps_s records_s times

    pub stmt_counted : (x : Stmt) (left d : ℕ) (c : Count) (rest : List Record) → from t c.at.at ≡ list_s x rest → depth_s x ≤ left → Inside v x → size_s x ≤ most
        → Held c → d ≤ c.deepest
        → counts left d c ≡ laid (size_s x) (records_s (STT (layout n) d x)) (steps_s takes (STT (layout n) d x)) (d + depth x) c
    stmt_counted skip left d c rest is k i l h m =
        (head_s_lem SKIP left d c rest is k).0 ∙ alike refl (nothing_more c.records h.0) (nothing_more c.steps h.1) (omega arith)
    stmt_counted (seq xs) left d c rest is k i l h m =
        let (p, on) = head_s_lem (SEQ (count_s xs)) left d c (list_ss xs rest) is (omega arith) in
        p ∙ stmts_counted xs (left - 1) d (moved (c.at.at + 1) c) rest on (omega arith) i.2 (omega arith) h m ∙ alike (omega arith) refl refl refl
    stmt_counted (def x e) left d c rest is k i l h m =
        let (p, on) = head_s_lem (DEF x) left d c (list_e e rest) is k in
        p ∙ ap (plus 1 1) (expr_counted v κ few t e (moved (c.at.at + 1) c) rest on i.1.0 (omega arith))
        ∙ behind e 1 1 _ _ _ d c (omega arith) (def_records n d x e) (omega arith) m
    stmt_counted (set x e) left d c rest is k i l h m =
        let (p, on) = head_s_lem (SET x) left d c (list_e e rest) is k in
        p ∙ ap (masked d) (expr_counted v κ few t e (moved (c.at.at + 1) c) rest on i.1.0 (omega arith))
        ∙ behind e (4 * d + 12) (4 * d + 10) _ _ _ d c (omega arith) (omega (arith, set_records n d x e)) (omega (arith, set_steps takes n d x e)) m
    stmt_counted (put a x e) left d c rest is k i l h m =
        let (p, on) = head_s_lem (PUT a) left d c (list_e x (list_e e rest)) is k in
        p ∙ put_counted a x e d c rest on i.1.0 i.2.0 (omega arith) m
    stmt_counted (for x q r s) left d c rest is k i l h m =
        let (p, on) = head_s_lem (FOR x q r) left d c (list_s s rest) is (omega arith) in
        p ∙ for_counted x q r s (left - 1) d c h (stmt_counted s (left - 1) d (opened (moved (c.at.at + 1) c)) rest on (omega arith) i.3 (omega arith)
        (hold_hold (c.records + 2), hold_within 0 (omega arith)) m)
    stmt_counted (if e s u) left d c rest is k i l h m =
        let (p, on) = head_s_lem IF left d c (list_e e (list_s s (list_s u rest))) is (omega arith) in
        p ∙ if_counted e s u (left - 1) d c rest on i.0.0 (omega arith) m
        (λ z is' h' m'. stmt_counted s (left - 1) (suc d) z (list_s u rest) is' (omega arith) i.1 (omega arith) h' m')
        (λ z is' h' m'. stmt_counted u (left - 1) (suc d) z rest is' (omega arith) i.2 (omega arith) h' m')
    stmt_counted (return e) left d c rest is k i l h m =
        let (p, on) = head_s_lem RETURN left d c (list_e e rest) is k in
        p ∙ ap (masked d) (expr_counted v κ few t e (moved (c.at.at + 1) c) rest on i.0 (omega arith))
        ∙ behind e (4 * d + 12) (4 * d + 10) _ _ _ d c (omega arith) (omega (arith, return_records n d e)) (omega (arith, return_steps takes n d e)) m

    stmts_counted : (xs : Stmts) (left d : ℕ) (c : Count) (rest : List Record) → from t c.at.at ≡ list_ss xs rest → depth_ss xs ≤ left → Insides v xs → size_ss xs ≤ most
        → Held c → d ≤ c.deepest
        → times (count_s xs) (counts left d) c ≡ laid (size_ss xs) (records_s (STTs (layout n) d xs)) (steps_s takes (STTs (layout n) d xs)) (d + depths xs) c
    stmts_counted done left d c rest is k i l h m = alike (omega arith) (nothing_more c.records h.0) (nothing_more c.steps h.1) (omega arith)
    stmts_counted (next x xs) left d c rest is k i l h m =
        let r = records_s (STT (layout n) d x) in
        let s = steps_s takes (STT (layout n) d x) in
        let z = laid (size_s x) r s (d + depth x) c in
        ap (times (count_s xs) (counts left d)) (stmt_counted x left d c (list_ss xs rest) is (omega arith) i.0 (omega arith) h m)
        ∙ stmts_counted xs left d z rest (past_s t x c.at.at is) (omega arith) i.1 (omega arith) (laid_held (size_s x) r s (d + depth x) c) (omega arith)
        ∙ alike (omega arith) (add_held c.records r _ _ refl) (add_held c.steps s _ _ refl) (omega arith)
