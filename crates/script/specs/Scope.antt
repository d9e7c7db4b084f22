-- Scope: refusals 8 and 9 (01, "Scope"). Assumes nothing: these are definitions.
use Rattle.std.specs.Prelude.{ℕ, ◌+◌, Bool, true, ltb}
use Rattle.word.specs.Slots.{upd, Seen, hidden, fixed, defined, Scope, begin}
use Rattle.script.specs.Tree.{Expr, num, tru, fls, var, get, lnot, bnot, bin, call, Exprs, none, more, Stmt, skip, seq, def, set, put, for, if, return, Stmts, done, next, Func, size_e, size_s}
use Rattle.script.specs.Stage.{clean, fault, or_else, Walked, goes, stops, after, onward, refuse_if, ended}
use Rattle.script.specs.Stage.{First}

-- what is visible, and which slots were declared so far (in the order of the records, visible or not)
pub record Names : Type 0 where
  pub seen : Scope
  pub declared : ℕ → Bool

-- a slot that is not visible is 8
unfoldable pub readable : Seen → ℕ → First
readable hidden at = fault 8 at
readable fixed at = clean
readable defined at = clean

unfoldable pub settable : Seen → ℕ → First
settable hidden at = fault 8 at
settable fixed at = fault 9 at
settable defined at = clean

-- the first record at fault of the expression at record `at`
unfoldable mutual
  pub scope_e : Scope → ℕ → Expr → First
  scope_e s at (num v) = clean
  scope_e s at tru = clean
  scope_e s at fls = clean
  scope_e s at (var x) = readable (s x) at
  scope_e s at (get a i) = scope_e s (at + 1) i
  scope_e s at (lnot e) = scope_e s (at + 1) e
  scope_e s at (bnot e) = scope_e s (at + 1) e
  scope_e s at (bin o l r) = or_else (scope_e s (at + 1) l) (scope_e s (at + 1 + size_e l) r)
  scope_e s at (call f es) = scope_es s (at + 1) es

  pub scope_es : Scope → ℕ → Exprs → First
  scope_es s at none = clean
  scope_es s at (more e es) = or_else (scope_e s at e) (scope_es s (at + size_e e) es)

-- slot x declared, as a DEF's or as a loop's
unfoldable pub declare : Names → ℕ → Seen → Names
declare n x k = record { seen = upd n.seen x k; declared = upd n.declared x true }

-- "to the end of the innermost branch, loop body or function body": what was visible outside is visible again
unfoldable pub close : Names → Walked Names → Walked Names
close n (goes m) = goes (record { seen = n.seen; declared = m.declared })
close n (stops number place) = stops number place

-- a statement's own fault comes before its expression's; "A DEF's slot is visible after that statement; a FOR's slot only in its body"
unfoldable mutual
  pub scope_s : Names → ℕ → Stmt → Walked Names
  scope_s n at skip = goes n
  scope_s n at (seq ss) = scope_ss n (at + 1) ss
  scope_s n at (def x e) = refuse_if (n.declared x) 8 at (after (scope_e n.seen (at + 1) e) (goes (declare n x defined)))
  scope_s n at (set x e) = after (settable (n.seen x) at) (after (scope_e n.seen (at + 1) e) (goes n))
  scope_s n at (put a i e) = after (scope_e n.seen (at + 1) i) (after (scope_e n.seen (at + 1 + size_e i) e) (goes n))
  scope_s n at (for x q r s) = refuse_if (n.declared x) 8 at (close n (scope_s (declare n x fixed) (at + 1) s))
  scope_s n at (if c s t) =
      after (scope_e n.seen (at + 1) c)
      (onward (close n (scope_s n (at + 1 + size_e c) s)) (λ m. close m (scope_s m (at + 1 + size_e c + size_s s) t)))
  scope_s n at (return e) = after (scope_e n.seen (at + 1) e) (goes n)

  pub scope_ss : Names → ℕ → Stmts → Walked Names
  scope_ss n at done = goes n
  scope_ss n at (next s ss) = onward (scope_s n at s) (λ m. scope_ss m (at + size_s s) ss)

-- "Parameters are slots 0 to p−1."
unfoldable pub parameters : ℕ → Names
parameters p = record { seen = begin p; declared = λ x. ltb x p }

-- of the function whose FUNC is record `at`
unfoldable pub scope_f : ℕ → Func → First
scope_f at f = ended (scope_s (parameters f.params) (at + 1) f.body)
