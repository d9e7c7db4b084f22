-- What the stages of scope and types carry from statement to statement: a slot that is not declared yet is hidden, and its type is still a
-- number; what is declared stays declared, and keeps its type. So the slots that are visible round a block have the same types after it, though
-- the types are not taken back. Assumes nothing.
use mathlib.Core.Path.{◌≡◌, refl, sym, ap, ◌∙◌, fun_ext}
use mathlib.Core.Bool.{Bool, true, false}
use Rattle.std.proofs.lemmas.Bool.{both_ways}
use mathlib.Core.Logic.{◌≢◌}
use Prim.Native.Nat.{ℕ}
use native.Mathlib.Decide.{ℕ_discrete}
use lib.Dec.{ltb}
use Rattle.word.specs.Types.{Ty, number}
use Rattle.word.specs.Slots.{upd, Seen, hidden, parameter, begin}
use Rattle.word.proofs.Memory.{upd_same, upd_other}
use Rattle.script.specs.Scope.{Names, declare, parameters}
use Rattle.script.specs.Types.{Types, numbers}
use Rattle.script.proofs.Scoping.{closed}
use Rattle.script.proofs.Judged.{shows, Context, shown_if, beginning}
use Rattle.script.proofs.Viewing.{shown_as, view}

-- of a slot that is not declared
pub record Held (n : Names) (Γ : Types) : Type 0 where
  pub unseen : (x : ℕ) → n.declared x ≡ false → n.seen x ≡ hidden
  pub untyped : (x : ℕ) → n.declared x ≡ false → Γ x ≡ number

-- of one that is
pub record Later (n : Names) (Γ : Types) (m : Names) (Δ : Types) : Type 0 where
  pub declared : (x : ℕ) → n.declared x ≡ true → m.declared x ≡ true
  pub typed : (x : ℕ) → n.declared x ≡ true → Δ x ≡ Γ x

pub later_refl : {n : Names} {Γ : Types} → Later n Γ n Γ
later_refl = record { declared = λ x h. h; typed = λ x h. refl }

pub later_trans : {n m k : Names} {Γ Δ Θ : Types} → Later n Γ m Δ → Later m Δ k Θ → Later n Γ k Θ
later_trans l r =
    record { declared = λ x h. r.declared x (l.declared x h); typed = λ x h. r.typed x (l.declared x h) ∙ l.typed x h }

pub later_undeclared : {n m : Names} {Γ Δ : Types} → Later n Γ m Δ → (x : ℕ) → m.declared x ≡ false → n.declared x ≡ false
later_undeclared {n} {m} l x h = go (n.declared x) refl
  where
    go : (b : Bool) → n.declared x ≡ b → n.declared x ≡ false
    go true e = absurd (both_ways _ h (l.declared x e))
    go false e = e

-- ---- a declaration
module _ (n : Names) (x : ℕ) (k : Seen) where
  declared_here : (declare n x k).declared x ≡ true
  unfolding declare
  declared_here = upd_same n.declared x true

  -- what is not declared after it is another slot, and was not declared before
  pub undeclared : {y : ℕ} → (declare n x k).declared y ≡ false → (y ≢ x) × (n.declared y ≡ false)
  unfolding declare
  undeclared {y} h =
      let other : y ≢ x = λ e. both_ways _ h (ap (declare n x k).declared e ∙ declared_here) in
      (other, sym (upd_other n.declared x true y other) ∙ h)

  module _ (Γ Δ : Types) (changed : (y : ℕ) → y ≢ x → Δ y ≡ Γ y) where
    pub held_declare : Held n Γ → Held (declare n x k) Δ
    unfolding declare
    held_declare h =
        record {
          unseen = λ y e. let u = undeclared e in upd_other n.seen x k y u.0 ∙ h.unseen y u.1;
          untyped = λ y e. let u = undeclared e in changed y u.0 ∙ h.untyped y u.1;
        }

    pub later_declare : n.declared x ≡ false → Later n Γ (declare n x k) Δ
    unfolding declare
    later_declare u =
        let other : (y : ℕ) → n.declared y ≡ true → y ≢ x = λ y e q. both_ways _ u (sym (ap n.declared q) ∙ e) in
        record { declared = λ y e. upd_other n.declared x true y (other y e) ∙ e; typed = λ y e. changed y (other y e) }

    -- and what is visible then
    pub view_declare : (t : Ty) → Δ x ≡ t → shown_as k t ≡ shows t → view (declare n x k).seen Δ ≡ upd (view n.seen Γ) x (shows t)
    unfolding view declare
    view_declare t e s = fun_ext (λ y. go y (ℕ_discrete y x))
      where
        before : Context
        before = view n.seen Γ

        go : (y : ℕ) → Dec (y ≡ x) → shown_as (upd n.seen x k y) (Δ y) ≡ upd before x (shows t) y
        go y (yes q) = rw (q, upd_same n.seen x k, e, upd_same before x (shows t)) s
        go y (no d) = rw (upd_other n.seen x k y d, changed y d, upd_other before x (shows t) y d)

-- ---- the end of a block
pub closed_held : {n m : Names} {Γ Δ : Types} → Held n Γ → Later n Γ m Δ → Held m Δ → Held (closed n m) Δ
closed_held h l g = record { unseen = λ x e. h.unseen x (later_undeclared l x e); untyped = g.untyped }

pub closed_later : {n m : Names} {Γ Δ : Types} → Later n Γ m Δ → Later n Γ (closed n m) Δ
closed_later l = record { declared = l.declared; typed = l.typed }

pub view_later : {n m : Names} {Γ Δ : Types} → Held n Γ → Later n Γ m Δ → view n.seen Δ ≡ view n.seen Γ
unfolding view shown_as
view_later {n} {m} {Γ} {Δ} h l = fun_ext (λ x. go x (n.declared x) refl)
  where
    go : (x : ℕ) (b : Bool) → n.declared x ≡ b → shown_as (n.seen x) (Δ x) ≡ shown_as (n.seen x) (Γ x)
    go x true e = ap (shown_as (n.seen x)) (l.typed x e)
    go x false e = rw (h.unseen x e)

-- ---- where a function begins
pub begin_held : (p : ℕ) → Held (parameters p) numbers
unfolding parameters numbers begin parameter
begin_held p = record { unseen = λ x e. ap parameter e; untyped = λ x e. refl }

pub begin_view : (p : ℕ) → view (parameters p).seen numbers ≡ beginning p
unfolding parameters numbers begin parameter view shown_as beginning shown_if
begin_view p = fun_ext (λ x. go (ltb x p))
  where
    go : (b : Bool) → shown_as (parameter b) number ≡ shown_if b
    go true = refl
    go false = refl
