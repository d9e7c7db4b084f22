-- Types: refusal 10, at the record that requires (01, "Types"). Assumes nothing: these are definitions.
use Rattle.std.specs.Prelude.{ℕ, ◌+◌, Bool, true, not, ◌&&◌}
use Rattle.word.specs.Types.{Ty, number, boolean, is_numeric, alike, op_ty, op_fine}
use Rattle.word.specs.Slots.{upd}
use Rattle.word.specs.Refusals.{required}
use Rattle.script.specs.Tree.{Expr, num, tru, fls, var, get, lnot, bnot, bin, call, Exprs, none, more, Stmt, skip, seq, def, set, put, for, if, return, Stmts, done, next, Func, size_e, size_s}
use Rattle.script.specs.Stage.{clean, or_else, Walked, goes, after, onward, ended}
use Rattle.script.specs.Stage.{First}

-- the slots' types: "Parameters, loop slots are numbers; a DEF'd slot has its expression's". A slot is declared once, so nothing is taken back
abbrev pub Types : Type 0
Types = ℕ → Ty

-- "Every expression has that type even if a part is at fault."
unfoldable pub ty : Types → Expr → Ty
ty Γ (num v) = number
ty Γ tru = boolean
ty Γ fls = boolean
ty Γ (var x) = Γ x
ty Γ (get a i) = number
ty Γ (lnot e) = boolean
ty Γ (bnot e) = number
ty Γ (bin o l r) = op_ty o (ty Γ l)
ty Γ (call f es) = number

unfoldable pub numeric : Types → Expr → Bool
numeric Γ e = is_numeric (ty Γ e)

unfoldable pub numerics : Types → Exprs → Bool
numerics Γ none = true
numerics Γ (more e es) = numeric Γ e && numerics Γ es

-- what an expression requires of its parts: "numbers for codes 1 to 5 and 10 to 13, `~`, indexes, arguments; booleans for `!`, codes 14, 15;
-- equal types on both sides for 6 to 9"
unfoldable pub fits : Types → Expr → Bool
fits Γ (num v) = true
fits Γ tru = true
fits Γ fls = true
fits Γ (var x) = true
fits Γ (get a i) = numeric Γ i
fits Γ (lnot e) = not (numeric Γ e)
fits Γ (bnot e) = numeric Γ e
fits Γ (bin o l r) = op_fine o (ty Γ l) (ty Γ r)
fits Γ (call f es) = numerics Γ es

unfoldable pub require : Bool → ℕ → First
require met at = required met 10 at

-- the first record at fault of the expression at record `at`: its own requirement, then its parts'
unfoldable mutual
  pub type_e : Types → ℕ → Expr → First
  type_e Γ at (num v) = clean
  type_e Γ at tru = clean
  type_e Γ at fls = clean
  type_e Γ at (var x) = clean
  type_e Γ at (get a i) = or_else (require (fits Γ (get a i)) at) (type_e Γ (at + 1) i)
  type_e Γ at (lnot e) = or_else (require (fits Γ (lnot e)) at) (type_e Γ (at + 1) e)
  type_e Γ at (bnot e) = or_else (require (fits Γ (bnot e)) at) (type_e Γ (at + 1) e)
  type_e Γ at (bin o l r) =
      or_else (require (fits Γ (bin o l r)) at) (or_else (type_e Γ (at + 1) l) (type_e Γ (at + 1 + size_e l) r))
  type_e Γ at (call f es) = or_else (require (fits Γ (call f es)) at) (type_es Γ (at + 1) es)

  pub type_es : Types → ℕ → Exprs → First
  type_es Γ at none = clean
  type_es Γ at (more e es) = or_else (type_e Γ at e) (type_es Γ (at + size_e e) es)

-- what a statement requires of its expressions: "numbers for indexes, stored values and RETURN; booleans for conditions; equal types for SET and its slot"
unfoldable pub suits : Types → Stmt → Bool
suits Γ skip = true
suits Γ (seq ss) = true
suits Γ (def x e) = true
suits Γ (set x e) = alike (Γ x) (ty Γ e)
suits Γ (put a i e) = numeric Γ i && numeric Γ e
suits Γ (for x q r s) = true
suits Γ (if c s t) = not (numeric Γ c)
suits Γ (return e) = numeric Γ e

unfoldable mutual
  pub type_s : Types → ℕ → Stmt → Walked Types
  type_s Γ at skip = goes Γ
  type_s Γ at (seq ss) = type_ss Γ (at + 1) ss
  type_s Γ at (def x e) = after (type_e Γ (at + 1) e) (goes (upd Γ x (ty Γ e)))
  type_s Γ at (set x e) = after (require (suits Γ (set x e)) at) (after (type_e Γ (at + 1) e) (goes Γ))
  type_s Γ at (put a i e) =
      after (require (suits Γ (put a i e)) at) (after (type_e Γ (at + 1) i) (after (type_e Γ (at + 1 + size_e i) e) (goes Γ)))
  type_s Γ at (for x q r s) = type_s Γ (at + 1) s
  type_s Γ at (if c s t) =
      after (require (suits Γ (if c s t)) at)
      (after (type_e Γ (at + 1) c)
      (onward (type_s Γ (at + 1 + size_e c) s) (λ Δ. type_s Δ (at + 1 + size_e c + size_s s) t)))
  type_s Γ at (return e) = after (require (suits Γ (return e)) at) (after (type_e Γ (at + 1) e) (goes Γ))

  pub type_ss : Types → ℕ → Stmts → Walked Types
  type_ss Γ at done = goes Γ
  type_ss Γ at (next s ss) = onward (type_s Γ at s) (λ Δ. type_ss Δ (at + size_s s) ss)

-- before any DEF
unfoldable pub numbers : Types
numbers x = number

unfoldable pub type_f : ℕ → Func → First
type_f at f = ended (type_s numbers (at + 1) f.body)
