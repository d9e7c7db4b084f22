-- What the stages of scope and types know at a place, seen as a context; and an expression in which they found no fault is fine there.
-- Assumes nothing.
use mathlib.Core.Path.{◌≡◌, refl, sym, ap, ◌∙◌}
use mathlib.Core.Bool.{not}
use Prim.Native.Nat.{ℕ, ◌<◌, ◌+◌}
use lib.Dec.{T}
use mir.Facts.{and_yes}
use Rattle.word.specs.Types.{Ty, number, boolean, is_numeric, alike, op_ty}
use Rattle.word.specs.Slots.{Seen, hidden, fixed, defined, Scope}
use Rattle.script.specs.Tree.{Expr, num, tru, fls, var, get, lnot, bnot, bin, call, Exprs, none, more, size_e}
use Rattle.script.specs.Scope.{readable, scope_e, scope_es}
use Rattle.script.specs.Types.{Types, ty, numeric, numerics, fits, type_e, type_es}
use Rattle.script.specs.Written.{InE, InEs}
use Rattle.script.specs.declared.Env.{Env}
use Rattle.script.proofs.Walks.{faulty, both_clean, required}
use Rattle.script.proofs.Placing.{Places}
use Rattle.script.proofs.Judged.{Shown, hides, shows, Context, shown_ty, types_of, ty_in, Fine, Fines}
use Rattle.std.specs.Prelude.{Ok}

unfoldable pub shown_as : Seen → Ty → Shown
shown_as hidden t = hides
shown_as fixed t = shows t
shown_as defined t = shows t

-- the slots that are not hidden, with their types
unfoldable pub view : Scope → Types → Context
view S Γ x = shown_as (S x) (Γ x)

-- ---- types that are asked for
pub is_number : (t : Ty) → T (is_numeric t) → t ≡ number
is_number number h = refl
is_number boolean h = absurd h

pub is_boolean : (t : Ty) → T (not (is_numeric t)) → t ≡ boolean
is_boolean number h = absurd h
is_boolean boolean h = refl

pub are_alike : (t u : Ty) → T (alike t u) → t ≡ u
are_alike number u h = sym (is_number u h)
are_alike boolean u h = sym (is_boolean u h)

-- ---- expressions
readable_shown : (k : Seen) (at : ℕ) (t : Ty) → readable k at ≡ Ok tt → shown_as k t ≡ shows t
unfolding readable shown_as
readable_shown hidden at t e = absurd (faulty e)
readable_shown fixed at t e = refl
readable_shown defined at t e = refl

module _ (S : Scope) (Γ : Types) where
  -- a clean expression has its type
  pub ty_view : (e : Expr) (at : ℕ) → scope_e S at e ≡ Ok tt → ty_in (view S Γ) e ≡ ty Γ e
  unfolding ty scope_e types_of view shown_ty
  ty_view (num v) at h = refl
  ty_view tru at h = refl
  ty_view fls at h = refl
  ty_view (var x) at h = ap shown_ty (readable_shown (S x) at (Γ x) h)
  ty_view (get a i) at h = refl
  ty_view (lnot e) at h = refl
  ty_view (bnot e) at h = refl
  ty_view (bin o l r) at h = ap (op_ty o) (ty_view l (at + 1) (both_clean _ h).0)
  ty_view (call f es) at h = refl

  module _ (π : ℕ → ℕ) (k : ℕ) (v : Env) (𝓟 : Places π k v) where
    mutual
      unfolding scope_e type_e fits numeric numerics ty InE Fine view types_of shown_ty

      pub fine : (e : Expr) (at : ℕ) → scope_e S at e ≡ Ok tt → type_e Γ at e ≡ Ok tt → InE v e → Fine π k (view S Γ) e
      fine (num n) at s t i = i
      fine tru at s t i = tt
      fine fls at s t i = tt
      fine (var x) at s t i = let q = readable_shown (S x) at (Γ x) s in q ∙ ap shows (sym (ap shown_ty q))
      fine (get a j) at s t i =
          let q = both_clean _ t in
          (fine j (at + 1) s q.1 i.1, ty_view j (at + 1) s ∙ is_number _ (required _ at q.0))
      fine (lnot e) at s t i =
          let q = both_clean _ t in
          (fine e (at + 1) s q.1 i, ty_view e (at + 1) s ∙ is_boolean _ (required _ at q.0))
      fine (bnot e) at s t i =
          let q = both_clean _ t in
          (fine e (at + 1) s q.1 i, ty_view e (at + 1) s ∙ is_number _ (required _ at q.0))
      fine (bin o l r) at s t i =
          let q = both_clean _ t in
          let u = both_clean _ q.1 in
          let c = both_clean _ s in (
            fine l (at + 1) c.0 u.0 i.0,
            fine r (at + 1 + size_e l) c.1 u.1 i.1,
            rw (ty_view l (at + 1) c.0, ty_view r (at + 1 + size_e l) c.1) (required _ at q.0),
          )
      fine (call f es) at s t i =
          let q = both_clean _ t in
          let h : f < k = rw 𝓟.func at i.0 in
          (h, i.1 ∙ 𝓟.arity f h, fines es (at + 1) s q.1 (required _ at q.0) i.2)

      pub fines : (es : Exprs) (at : ℕ) → scope_es S at es ≡ Ok tt → type_es Γ at es ≡ Ok tt → T (numerics Γ es) → InEs v es → Fines π k (view S Γ) es
      fines none at s t n i = tt
      fines (more e es) at s t n i =
          let q = both_clean _ t in
          let c = both_clean _ s in
          let b = and_yes (numeric Γ e) (numerics Γ es) n in (
            fine e at c.0 q.0 i.0,
            ty_view e at c.0 ∙ is_number _ b.0,
            fines es (at + size_e e) c.1 q.1 b.1 i.1,
          )
