-- The scripts that the compiler's theorem is about: scope, types, ranges and calls (01, "Scope", "Types"), no more than it needs. A context says
-- which slots are visible, and with which type. `Judging` shows that every accepted script is one of them. Assumes nothing.
use mathlib.Core.Path.{◌≡◌}
use mathlib.Core.Bool.{Bool, true, false}
use mathlib.Core.List.{List, [], ◌∷◌}
use Prim.Native.Nat.{ℕ, zero, suc, ◌^◌, ◌≤◌, ◌<◌}
use lib.Dec.{T, ltb}
use Rattle.word.specs.Types.{Ty, number, boolean, op_fine}
use Rattle.word.specs.Slots.{upd}
use Rattle.script.specs.Tree.{Expr, num, tru, fls, var, get, lnot, bnot, bin, call, Exprs, none, more, Stmt, skip, seq, def, set, put, for, if, return, Stmts, done, next, Func, Program}
use Rattle.script.specs.Types.{Types, ty}
use Rattle.script.specs.Written.{count_e}

pub data Shown : Type 0 where
  hides : Shown
  shows : Ty → Shown

abbrev pub Context : Type 0
Context = ℕ → Shown

-- the types that a context gives, a hidden slot's being a number
unfoldable pub shown_ty : Shown → Ty
shown_ty hides = number
shown_ty (shows t) = t

unfoldable pub types_of : Context → Types
types_of Γ x = shown_ty (Γ x)

abbrev pub ty_in : Context → Expr → Ty
ty_in Γ e = ty (types_of Γ) e

-- what is visible after a statement
unfoldable mutual
  pub after_s : Context → Stmt → Context
  after_s Γ skip = Γ
  after_s Γ (seq ss) = after_ss Γ ss
  after_s Γ (def x e) = upd Γ x (shows (ty_in Γ e))
  after_s Γ (set x e) = Γ
  after_s Γ (put a i e) = Γ
  after_s Γ (for x q r s) = Γ
  after_s Γ (if c s t) = Γ
  after_s Γ (return e) = Γ

  pub after_ss : Context → Stmts → Context
  after_ss Γ done = Γ
  after_ss Γ (next s ss) = after_ss (after_s Γ s) ss

-- in function k, where function f has π f parameters
module _ (π : ℕ → ℕ) (k : ℕ) where
  unfoldable mutual
    pub Fine : Context → Expr → Type 0
    Fine Γ (num v) = v < 2 ^ 32
    Fine Γ tru = Unit {0}
    Fine Γ fls = Unit {0}
    Fine Γ (var x) = Γ x ≡ shows (ty_in Γ (var x))
    Fine Γ (get a i) = Fine Γ i × (ty_in Γ i ≡ number)
    Fine Γ (lnot e) = Fine Γ e × (ty_in Γ e ≡ boolean)
    Fine Γ (bnot e) = Fine Γ e × (ty_in Γ e ≡ number)
    Fine Γ (bin o l r) = Fine Γ l × Fine Γ r × T (op_fine o (ty_in Γ l) (ty_in Γ r))
    Fine Γ (call f es) = (f < k) × (count_e es ≡ π f) × Fines Γ es

    pub Fines : Context → Exprs → Type 0
    Fines Γ none = Unit {0}
    Fines Γ (more e es) = Fine Γ e × (ty_in Γ e ≡ number) × Fines Γ es

  -- with n slots
  module _ (n : ℕ) where
    unfoldable mutual
      pub Sound : Context → Stmt → Type 0
      Sound Γ skip = Unit {0}
      Sound Γ (seq ss) = Sounds Γ ss
      Sound Γ (def x e) = (x < n) × (Γ x ≡ hides) × Fine Γ e
      Sound Γ (set x e) = Fine Γ e × (Γ x ≡ shows (ty_in Γ e))
      Sound Γ (put a i e) = Fine Γ i × (ty_in Γ i ≡ number) × Fine Γ e × (ty_in Γ e ≡ number)
      Sound Γ (for x q r s) = (x < n) × (Γ x ≡ hides) × (q ≤ r) × (r < 2 ^ 32) × Sound (upd Γ x (shows number)) s
      Sound Γ (if c s t) = Fine Γ c × (ty_in Γ c ≡ boolean) × Sound Γ s × Sound Γ t
      Sound Γ (return e) = Fine Γ e × (ty_in Γ e ≡ number)

      pub Sounds : Context → Stmts → Type 0
      Sounds Γ done = Unit {0}
      Sounds Γ (next s ss) = Sound Γ s × Sounds (after_s Γ s) ss

-- a helper stores nothing
unfoldable mutual
  pub NoPut : Stmt → Type 0
  NoPut skip = Unit {0}
  NoPut (seq ss) = NoPuts ss
  NoPut (def x e) = Unit {0}
  NoPut (set x e) = Unit {0}
  NoPut (put a i e) = ⊥
  NoPut (for x q r s) = NoPut s
  NoPut (if c s t) = NoPut s × NoPut t
  NoPut (return e) = Unit {0}

  pub NoPuts : Stmts → Type 0
  NoPuts done = Unit {0}
  NoPuts (next s ss) = NoPut s × NoPuts ss

-- a function begins with its parameters visible, as numbers
unfoldable pub shown_if : Bool → Shown
shown_if true = shows number
shown_if false = hides

unfoldable pub beginning : ℕ → Context
beginning p x = shown_if (ltb x p)

pub record SoundFunc (π : ℕ → ℕ) (k : ℕ) (f : Func) : Type 0 where
  pub room : f.params ≤ f.slots
  pub body : Sound π k f.slots (beginning f.params) f.body

-- the functions from the k-th on, one at least: all but the last store nothing
pub data SoundFrom (π : ℕ → ℕ) : ℕ → List Func → Type 0 where
  the_last : {k : ℕ} {f : Func} → SoundFunc π k f → SoundFrom π k (f ∷ [])
  one_more : {k : ℕ} {f g : Func} {fs : List Func} → SoundFunc π k f → NoPut f.body → SoundFrom π (suc k) (g ∷ fs) → SoundFrom π k (f ∷ g ∷ fs)

-- the parameters of function f
unfoldable pub params_at : List Func → ℕ → ℕ
params_at [] f = 0
params_at (g ∷ gs) zero = g.params
params_at (g ∷ gs) (suc f) = params_at gs f

abbrev pub SoundProgram : Program → Type 0
SoundProgram p = SoundFrom (params_at p.funcs) 0 p.funcs
