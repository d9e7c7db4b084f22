-- The scan over a statement's expressions: over a tree's records it says what `scope_e` says of the tree.
-- Assumes nothing.
use Prim.Native.Nat.{ℕ, ◌+◌}
use native.Mathlib.Omega.{arith}
use mathlib.Core.Path.{◌≡◌, refl, ap, ◌∙◌}
use mathlib.Core.Bool.{Bool, true, false, not, ◌||◌}
use mathlib.Core.List.{List, [], ◌∷◌}
use Rattle.word.specs.Slots.{here, Seen, hidden, fixed, defined}
use Rattle.word.specs.Sets.{has}
use Rattle.word.specs.declared.Record.{Record}
use Rattle.script.specs.Tree.{Expr, num, tru, fls, var, get, lnot, bnot, bin, call, Exprs, none, more, Stmt, skip, seq, def, set, put, for, if, return, Stmts, done, next, Func, size_e, size_es}
use Rattle.script.specs.Table.{VAR, write_e, write_s}
use Rattle.script.specs.Written.{list_e, list_es, list_s, list_ss, list_funcs}
use Rattle.script.specs.Stage.{Walked, goes, after}
use Rattle.script.specs.Scope.{readable, scope_e, scope_es}
use Rattle.scoping.specs.Scoped.{seen_of, hides, seek_at, seek}
use Rattle.scoping.specs.declared.scope.Slots.{Slots}
use Rattle.scoping.proofs.Together.{after_after}

-- ---- over a tree
shift : (a : Slots) {i j : ℕ} (xs : List Record) → i ≡ j → seek a i xs ≡ seek a j xs
shift a xs e = rw e refl

-- a slot is hidden if it is in neither set
sees : (d f : Bool) (at : ℕ) (w : Walked ℕ) → seek_at true (not (d || f)) at w ≡ after (readable (here d defined (here f fixed hidden)) at) w
unfolding seek_at readable here after
sees true f at w = refl
sees false true at w = refl
sees false false at w = refl

var_seen : (a : Slots) (at x : ℕ) (rest : List Record) → seek a at (write_e (VAR x) ∷ rest) ≡ after (readable (seen_of a x) at) (seek a (at + 1) rest)
unfolding seek hides write_e seen_of
var_seen a at x rest = sees (has a.defined x) (has a.fixed x) at (seek a (at + 1) rest)

mutual
  unfolding list_e size_e scope_e seek seek_at hides write_e after

  pub seek_expr : (e : Expr) (a : Slots) (at : ℕ) (rest : List Record) → seek a at (list_e e rest) ≡ after (scope_e (λ x. seen_of a x) at e) (seek a (at + size_e e) rest)
  seek_expr (num v) a at rest = refl
  seek_expr tru a at rest = refl
  seek_expr fls a at rest = refl
  seek_expr (var x) a at rest = var_seen a at x rest
  seek_expr (get b i) a at rest = seek_expr i a (at + 1) rest ∙ ap (after (scope_e (λ x. seen_of a x) (at + 1) i)) (shift a rest (omega arith))
  seek_expr (lnot e) a at rest = seek_expr e a (at + 1) rest ∙ ap (after (scope_e (λ x. seen_of a x) (at + 1) e)) (shift a rest (omega arith))
  seek_expr (bnot e) a at rest = seek_expr e a (at + 1) rest ∙ ap (after (scope_e (λ x. seen_of a x) (at + 1) e)) (shift a rest (omega arith))
  seek_expr (bin o l r) a at rest =
      let s : ℕ → Seen = λ x. seen_of a x in
      seek_expr l a (at + 1) (list_e r rest) ∙
      ap (after (scope_e s (at + 1) l)) (seek_expr r a (at + 1 + size_e l) rest ∙ ap (after (scope_e s (at + 1 + size_e l) r)) (shift a rest (omega arith))) ∙
      after_after (scope_e s (at + 1) l) (scope_e s (at + 1 + size_e l) r) _
  seek_expr (call f es) a at rest = seek_exprs es a (at + 1) rest ∙ ap (after (scope_es (λ x. seen_of a x) (at + 1) es)) (shift a rest (omega arith))

  pub seek_exprs : (es : Exprs) (a : Slots) (at : ℕ) (rest : List Record) → seek a at (list_es es rest) ≡ after (scope_es (λ x. seen_of a x) at es) (seek a (at + size_es es) rest)
  seek_exprs none a at rest = shift a rest (omega arith)
  seek_exprs (more e es) a at rest =
      let s : ℕ → Seen = λ x. seen_of a x in
      seek_expr e a at (list_es es rest) ∙
      ap (after (scope_e s at e)) (seek_exprs es a (at + size_e e) rest ∙ ap (after (scope_es s (at + size_e e) es)) (shift a rest (omega arith))) ∙
      after_after (scope_e s at e) (scope_es s (at + size_e e) es) _

-- ---- where the scan ends: before a statement, before a function, at the end of the table
abbrev pub Halts : List Record → Type 0
Halts rest = (a : Slots) (at : ℕ) → seek a at rest ≡ goes at

pub halts_stmt : (s : Stmt) (rest : List Record) → Halts (list_s s rest)
unfolding list_s seek seek_at write_s
halts_stmt skip rest a at = refl
halts_stmt (seq ss) rest a at = refl
halts_stmt (def x e) rest a at = refl
halts_stmt (set x e) rest a at = refl
halts_stmt (put b i e) rest a at = refl
halts_stmt (for x q r s) rest a at = refl
halts_stmt (if c s t) rest a at = refl
halts_stmt (return e) rest a at = refl

pub halts_stmts : (ss : Stmts) (rest : List Record) → Halts rest → Halts (list_ss ss rest)
unfolding list_ss
halts_stmts done rest h a at = h a at
halts_stmts (next s ss) rest h a at = halts_stmt s (list_ss ss rest) a at

pub halts_funcs : (fs : List Func) → Halts (list_funcs fs)
unfolding list_funcs seek seek_at
halts_funcs [] a at = refl
halts_funcs (f ∷ fs) a at = refl
