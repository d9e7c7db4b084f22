-- The scan for stores: its turns, as the code takes them; and that over a tree's records it says what `stores` says of the tree. Assumes nothing.
use Prim.Native.Nat.{ℕ, zero, suc, ◌+◌, ◌-◌, ◌≤◌, ◌<◌}
use native.Mathlib.Omega.{arith}
use mathlib.Core.Path.{◌≡◌, refl, sym, ap, ◌∙◌}
use mathlib.Core.List.{List, [], ◌∷◌}
use borrow.Author.Tests.{ne_eqb}
use lib.ListN.{length}
use Rattle.word.specs.Code.{code}
use Rattle.word.specs.declared.Record.{Record}
use Rattle.word.proofs.Memory.{Words}
use Rattle.script.specs.Tree.{Expr, num, tru, fls, var, get, lnot, bnot, bin, call, Exprs, none, more, Stmt, skip, seq, def, set, put, for, if, return, Stmts, done, next, Func, Program, size_e, size_es, size_s, size_ss, size_f}
use Rattle.script.specs.Table.{HeadE, NUM, TRUE, FALSE, VAR, GET, LNOT, BNOT, BIN, CALL, write_e, write_s}
use Rattle.script.specs.Parse.{parsed, read_table}
use Rattle.script.specs.Written.{list_e, list_es, list_s, list_ss, list_funcs}
use Rattle.script.specs.Stage.{clean, fault, or_else, first_func}
use Rattle.script.specs.Stores.{store_s, store_ss, helpers, stores}
use Rattle.stages.specs.Stored.{met, store_at, storing, stored}
use Rattle.scoping.proofs.Found.{lists, begins}
use Rattle.scoping.proofs.Together.{or_assoc}

-- ---- the turns
pub at_store : (x : Record) (xs : List Record) (left at : ℕ) → x.kind ≡ 34 → storing left at (x ∷ xs) ≡ fault 11 at
unfolding storing met store_at
at_store x xs left at k = rw k refl

pub at_last : (x : Record) (xs : List Record) (left at : ℕ) → x.kind ≡ 3 → left ≤ 1 → storing left at (x ∷ xs) ≡ clean
unfolding storing met store_at
at_last x xs zero at k few = rw k refl
at_last x xs (suc zero) at k few = rw k refl
at_last x xs (suc (suc left)) at k few = absurd (omega arith)

pub at_function : (x : Record) (xs : List Record) (left at : ℕ) → x.kind ≡ 3 → 1 < left → storing left at (x ∷ xs) ≡ storing (left - 1) (at + 1) xs
unfolding storing met store_at
at_function x xs zero at k some = absurd (omega arith)
at_function x xs (suc zero) at k some = absurd (omega arith)
at_function x xs (suc (suc left)) at k some = let e : suc (suc left) - 1 ≡ suc left = omega arith in rw (k, e) refl

pub at_other : (x : Record) (xs : List Record) (left at : ℕ) → (x.kind ≡ 34 → ⊥) → (x.kind ≡ 3 → ⊥) → storing left at (x ∷ xs) ≡ storing left (at + 1) xs
unfolding storing met store_at
at_other x xs left at d e = rw (ne_eqb x.kind 34 d, ne_eqb x.kind 3 e) refl

-- ---- over a tree
-- the same scan from a place that is the same number
shift : (left : ℕ) {i j : ℕ} (xs : List Record) → i ≡ j → storing left i xs ≡ storing left j xs
shift left xs e = rw e refl

-- an expression's record is passed
expr_on : (h : HeadE) (left at : ℕ) (xs : List Record) → storing left at (write_e h ∷ xs) ≡ storing left (at + 1) xs
unfolding storing met store_at write_e
expr_on (NUM v) left at xs = refl
expr_on TRUE left at xs = refl
expr_on FALSE left at xs = refl
expr_on (VAR x) left at xs = refl
expr_on (GET a) left at xs = refl
expr_on LNOT left at xs = refl
expr_on BNOT left at xs = refl
expr_on (BIN o) left at xs = refl
expr_on (CALL f) left at xs = refl

mutual
  unfolding list_e size_e

  expr_passed : (e : Expr) (left at : ℕ) (rest : List Record) → storing left at (list_e e rest) ≡ storing left (at + size_e e) rest
  expr_passed (num v) left at rest = expr_on (NUM v) left at rest
  expr_passed tru left at rest = expr_on TRUE left at rest
  expr_passed fls left at rest = expr_on FALSE left at rest
  expr_passed (var x) left at rest = expr_on (VAR x) left at rest
  expr_passed (get a i) left at rest = expr_on (GET a) left at _ ∙ expr_passed i left (at + 1) rest ∙ shift left rest (omega arith)
  expr_passed (lnot e) left at rest = expr_on LNOT left at _ ∙ expr_passed e left (at + 1) rest ∙ shift left rest (omega arith)
  expr_passed (bnot e) left at rest = expr_on BNOT left at _ ∙ expr_passed e left (at + 1) rest ∙ shift left rest (omega arith)
  expr_passed (bin o l r) left at rest =
      expr_on (BIN (code o)) left at _ ∙ expr_passed l left (at + 1) (list_e r rest) ∙ expr_passed r left (at + 1 + size_e l) rest ∙ shift left rest (omega arith)
  expr_passed (call f es) left at rest = expr_on (CALL f) left at _ ∙ exprs_passed es left (at + 1) rest ∙ shift left rest (omega arith)

  exprs_passed : (es : Exprs) (left at : ℕ) (rest : List Record) → storing left at (list_es es rest) ≡ storing left (at + size_es es) rest
  exprs_passed none left at rest = shift left rest (omega arith)
  exprs_passed (more e es) left at rest =
      expr_passed e left at (list_es es rest) ∙ exprs_passed es left (at + size_e e) rest ∙ shift left rest (omega arith)

mutual
  unfolding list_s size_s store_s storing met store_at write_s or_else

  stmt_stores : (s : Stmt) (left at : ℕ) (rest : List Record) → storing left at (list_s s rest) ≡ or_else (store_s at s) (storing left (at + size_s s) rest)
  stmt_stores skip left at rest = refl
  stmt_stores (seq ss) left at rest = stmts_store ss left (at + 1) rest ∙ ap (or_else (store_ss (at + 1) ss)) (shift left rest (omega arith))
  stmt_stores (def x e) left at rest = expr_passed e left (at + 1) rest ∙ shift left rest (omega arith)
  stmt_stores (set x e) left at rest = expr_passed e left (at + 1) rest ∙ shift left rest (omega arith)
  stmt_stores (put a i e) left at rest = refl
  stmt_stores (for x q r s) left at rest = stmt_stores s left (at + 1) rest ∙ ap (or_else (store_s (at + 1) s)) (shift left rest (omega arith))
  stmt_stores (if c s t) left at rest =
      let m = at + 1 + size_e c in
      expr_passed c left (at + 1) (list_s s (list_s t rest)) ∙
      stmt_stores s left m (list_s t rest) ∙
      ap (or_else (store_s m s)) (stmt_stores t left (m + size_s s) rest ∙ ap (or_else (store_s (m + size_s s) t)) (shift left rest (omega arith))) ∙
      sym (or_assoc (store_s m s) (store_s (m + size_s s) t) _)
  stmt_stores (return e) left at rest = expr_passed e left (at + 1) rest ∙ shift left rest (omega arith)

  stmts_store : (ss : Stmts) (left at : ℕ) (rest : List Record) → storing left at (list_ss ss rest) ≡ or_else (store_ss at ss) (storing left (at + size_ss ss) rest)
  stmts_store done left at rest = shift left rest (omega arith)
  stmts_store (next s ss) left at rest =
      stmt_stores s left at (list_ss ss rest) ∙
      ap (or_else (store_s at s)) (stmts_store ss left (at + size_s s) rest ∙ ap (or_else (store_ss (at + size_s s) ss)) (shift left rest (omega arith))) ∙
      sym (or_assoc (store_s at s) (store_ss (at + size_s s) ss) _)

funcs_store : (fs : List Func) (at : ℕ) → storing (length fs) at (list_funcs fs) ≡ helpers at fs
unfolding list_funcs helpers storing met store_at size_f
funcs_store [] at = refl
funcs_store (f ∷ []) at = refl
funcs_store (f ∷ g ∷ fs) at =
    stmt_stores f.body (length (g ∷ fs)) (at + 1) (list_funcs (g ∷ fs)) ∙
    ap (or_else (store_s (at + 1) f.body)) (shift (length (g ∷ fs)) (list_funcs (g ∷ fs)) (omega arith) ∙ funcs_store (g ∷ fs) (at + suc (size_s f.body)))

-- THE LAW: over a table that was read, the scan says what `stores` says of its tree
pub stored_is : (t : List ℕ) → Words t → (p : Program) (i : ℕ) → read_table t ≡ parsed p i → stored t ≡ stores p
unfolding stored stores
stored_is t w p i e =
    let (is, within) = lists t p i w e in
    let (first, on) = begins t p is in
    rw (first, on) (funcs_store p.funcs (first_func p))
