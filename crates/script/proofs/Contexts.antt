-- Laws of contexts, and of slots that a context types. Assumes nothing.
use mathlib.Core.Path.{◌≡◌, refl, sym, ap, ◌∙◌, subst}
use mathlib.Core.Bool.{Bool, true, false}
use mathlib.Core.List.{List}
use mathlib.Core.Logic.{◌≢◌}
use Prim.Native.Nat.{ℕ, ◌≤◌, ◌<◌}
use native.Mathlib.Omega.{arith}
use native.Mathlib.Decide.{ℕ_discrete}
use borrow.Author.Tests.{ltb-true}
use lib.Dec.{ltb}
use Rattle.word.specs.Types.{Ty, number, Val}
use Rattle.word.specs.Slots.{Slots, upd, fresh}
use Rattle.word.proofs.Memory.{upd_same, upd_other, Words, words_val}
use Rattle.script.specs.Tree.{Stmt, skip, seq, def, set, put, for, if, return, Stmts, done, next}
use Rattle.script.proofs.Judged.{Context, hides, shows, ty_in, after_s, after_ss, Sound, Sounds, shown_if, beginning}

-- ---- contexts
-- what is visible in Γ is visible in Γ'
pub record Grows (Γ Γ' : Context) : Type 0 where
  pub sees : (x : ℕ) (t : Ty) → Γ x ≡ shows t → Γ' x ≡ shows t

-- what is visible lies below n
pub record Below (n : ℕ) (Γ : Context) : Type 0 where
  pub below : (x : ℕ) (t : Ty) → Γ x ≡ shows t → x < n

-- Γ' is Γ but for x, which has type t there
pub record Beside (Γ Γ' : Context) (x : ℕ) (t : Ty) : Type 0 where
  pub here : Γ' x ≡ shows t
  pub there : (y : ℕ) → y ≢ x → Γ' y ≡ Γ y

pub grows_refl : {Γ : Context} → Grows Γ Γ
grows_refl = record { sees = λ x t q. q }

pub grows_trans : {Γ Γ₁ Γ₂ : Context} → Grows Γ Γ₁ → Grows Γ₁ Γ₂ → Grows Γ Γ₂
grows_trans p q = record { sees = λ x t h. q.sees x t (p.sees x t h) }

-- a hidden slot is none of the visible ones
pub apart : (Γ : Context) {x : ℕ} → Γ x ≡ hides → (y : ℕ) (u : Ty) → Γ y ≡ shows u → y ≢ x
apart Γ h y u q e = let z : ◌≡◌ {A = ℕ} 0 1 = cc (ap Γ e) in omega arith

pub grows_upd : {Γ : Context} (x : ℕ) (t : Ty) → Γ x ≡ hides → Grows Γ (upd Γ x (shows t))
grows_upd {Γ} x t h = record { sees = λ y u q. upd_other Γ x (shows t) y (apart Γ h y u q) ∙ q }

pub beside_upd : {Γ : Context} (x : ℕ) (t : Ty) → Beside Γ (upd Γ x (shows t)) x t
beside_upd {Γ} x t = record { here = upd_same Γ x (shows t); there = upd_other Γ x (shows t) }

pub beside_refl : {Γ : Context} {x : ℕ} {t : Ty} → Γ x ≡ shows t → Beside Γ Γ x t
beside_refl h = record { here = h; there = λ y q. refl }

pub below_upd : {n : ℕ} {Γ : Context} {x : ℕ} (t : Ty) → x < n → Below n Γ → Below n (upd Γ x (shows t))
below_upd {n} {Γ} {x} t h b = record { below = λ y u q. go y u q (ℕ_discrete y x) }
  where
    go : (y : ℕ) (u : Ty) → upd Γ x (shows t) y ≡ shows u → Dec (y ≡ x) → y < n
    go y u q (yes e) = rw e h
    go y u q (no d) = b.below y u (sym (upd_other Γ x (shows t) y d) ∙ q)

-- ---- slots
-- τ has what σ has in the visible slots, each of its type
pub record Agree (Γ : Context) (σ τ : Slots) : Type 0 where
  pub same : (x : ℕ) (t : Ty) → Γ x ≡ shows t → τ x ≡ σ x
  pub typed : (x : ℕ) (t : Ty) → Γ x ≡ shows t → Val (σ x) t

-- the visible slots have values of their types
abbrev pub Typed : Context → Slots → Type 0
Typed Γ τ = Agree Γ τ τ

pub agree_grows : {Γ Γ' : Context} {σ τ : Slots} → Grows Γ Γ' → Agree Γ' σ τ → Agree Γ σ τ
agree_grows p a = record { same = λ x t q. a.same x t (p.sees x t q); typed = λ x t q. a.typed x t (p.sees x t q) }

pub typed_of : {Γ : Context} {σ τ : Slots} → Agree Γ σ τ → Typed Γ τ
typed_of a = record { same = λ x t q. refl; typed = λ x t q. subst (λ (v : ℕ). Val v t) (sym (a.same x t q)) (a.typed x t q) }

pub agree_upd : {Γ Γ' : Context} {x : ℕ} {t : Ty} {σ τ : Slots} (v : ℕ) → Beside Γ Γ' x t → Val v t → Agree Γ σ τ → Agree Γ' (upd σ x v) (upd τ x v)
agree_upd {Γ} {Γ'} {x} {t} {σ} {τ} v b h a =
    record { same = λ y u q. same y u q (ℕ_discrete y x); typed = λ y u q. typed y u q (ℕ_discrete y x) }
  where
    same : (y : ℕ) (u : Ty) → Γ' y ≡ shows u → Dec (y ≡ x) → upd τ x v y ≡ upd σ x v y
    same y u q (yes e) = rw e (upd_same τ x v ∙ sym (upd_same σ x v))
    same y u q (no d) = upd_other τ x v y d ∙ a.same y u (sym (b.there y d) ∙ q) ∙ sym (upd_other σ x v y d)

    typed : (y : ℕ) (u : Ty) → Γ' y ≡ shows u → Dec (y ≡ x) → Val (upd σ x v y) u
    typed y u q (yes e) =
        let f : t ≡ u = cc (ap Γ' e, b.here) in
        rw e (rw (upd_same σ x v) (rw f at h))
    typed y u q (no d) = rw (upd_other σ x v y d) (a.typed y u (sym (b.there y d) ∙ q))

-- a slot that is not visible may change
pub agree_aside : {n : ℕ} {Γ : Context} {σ τ : Slots} (y v : ℕ) → n ≤ y → Below n Γ → Agree Γ σ τ → Agree Γ σ (upd τ y v)
agree_aside {n} {τ} y v h b a =
    record {
      same = λ x t q. upd_other τ y v x (let k : x < n = b.below x t q in omega arith) ∙ a.same x t q;
      typed = a.typed;
    }

-- ---- what a sound statement does to the context
module _ (π : ℕ → ℕ) (k n : ℕ) where
  mutual
    unfolding after_s Sound

    pub after_grows : (s : Stmt) {Γ : Context} → Sound π k n Γ s → Grows Γ (after_s Γ s)
    after_grows skip h = grows_refl
    after_grows (seq ss) h = afters_grow ss h
    after_grows (def x e) {Γ} h = grows_upd x (ty_in Γ e) h.1
    after_grows (set x e) h = grows_refl
    after_grows (put a i e) h = grows_refl
    after_grows (for x q r s) h = grows_refl
    after_grows (if c s t) h = grows_refl
    after_grows (return e) h = grows_refl

    pub afters_grow : (ss : Stmts) {Γ : Context} → Sounds π k n Γ ss → Grows Γ (after_ss Γ ss)
    afters_grow done h = grows_refl
    afters_grow (next s ss) h = grows_trans (after_grows s h.0) (afters_grow ss h.1)

  mutual
    unfolding after_s Sound

    pub after_below : (s : Stmt) {Γ : Context} → Sound π k n Γ s → Below n Γ → Below n (after_s Γ s)
    after_below skip h b = b
    after_below (seq ss) h b = afters_below ss h b
    after_below (def x e) {Γ} h b = below_upd (ty_in Γ e) h.0 b
    after_below (set x e) h b = b
    after_below (put a i e) h b = b
    after_below (for x q r s) h b = b
    after_below (if c s t) h b = b
    after_below (return e) h b = b

    pub afters_below : (ss : Stmts) {Γ : Context} → Sounds π k n Γ ss → Below n Γ → Below n (after_ss Γ ss)
    afters_below done h b = b
    afters_below (next s ss) h b = afters_below ss h.1 (after_below s h.0 b)

-- ---- where a function begins
pub shown_if_lem : (b : Bool) {t : Ty} → shown_if b ≡ shows t → (b ≡ true) × (number ≡ t)
unfolding shown_if
shown_if_lem true q = (refl, cc)
shown_if_lem false q = let z : ◌≡◌ {A = ℕ} 0 1 = cc in absurd (omega arith)

pub begin_agree : {arguments : List ℕ} (p : ℕ) → Words arguments → Agree (beginning p) (fresh arguments) (fresh arguments)
unfolding beginning
begin_agree p h =
    record { same = λ x t q. refl; typed = λ x t q. rw (shown_if_lem (ltb x p) q).1 at (words_val h x) }

pub begin_below : (n p : ℕ) → p ≤ n → Below n (beginning p)
unfolding beginning
begin_below n p h = record { below = λ x t q. omega (arith, ltb-true x p (shown_if_lem (ltb x p) q).0) }
