-- Where the machine's slots agree with the rules' substitution and local memory: a parameter or a loop's slot stands in {σ}, a DEF'd one in the innermost
-- frame of μ, and {σ} has no other. Assumes nothing.
use mathlib.Core.Path.{◌≡◌, refl}
use mathlib.Core.Bool.{Bool, true, false}
use mathlib.Core.List.{List, [], ◌∷◌}
use mathlib.Core.Option.{Option, none, some}
use mathlib.Core.Logic.{◌≢◌}
use Prim.Native.Nat.{ℕ, zero, suc, ◌≤◌, ◌<◌}
use native.Mathlib.Decide.{ℕ_discrete}
use native.Mathlib.Omega.{arith}
use borrow.Author.Tests.{ltb-true, ltb-false}
use lib.Dec.{ltb}
use lib.ListN.{length, get_or}
use Rattle.word.specs.Slots.{Slots, upd, fresh, Seen, hidden, fixed, defined, Scope, parameter, begin}
use Rattle.word.proofs.Memory.{upd_same, upd_other}
use Rattle.tape.specs.Core.{CStmt, SKIP, ◌⨾◌, DEF, SET, PUT, FOR}
use Rattle.tape.specs.Faults.{readable, settable, definable, unnamed}
use Rattle.tape.proofs.Settling.{clash}
use Rattle.tape.proofs.Sound.{after_s, SoundS}
use Rattle.rules.specs.Configurations.{Subst, Local, empty, bind}

-- v is the machine's, a the substitution's, b the local memory's
unfoldable pub Holds : Seen → ℕ → Option ℕ → Option ℕ → Type 0
Holds hidden v a b = a ≡ none
Holds fixed v a b = a ≡ some v
Holds defined v a b = (a ≡ none) × (b ≡ some v)

pub record Agree (D : Scope) (τ : Slots) (σ : Subst) (m : Local) : Type 0 where
  pub holds : (x : ℕ) → Holds (D x) (τ x) (σ x) (m x)

-- ---- a slot is read: where the rules find its value
pub data Found : ℕ → Option ℕ → Option ℕ → Type 0 where
  substituted : {v : ℕ} {a b : Option ℕ} → a ≡ some v → Found v a b
  remembered : {v : ℕ} {a b : Option ℕ} → a ≡ none → b ≡ some v → Found v a b

found_as : (k : Seen) {v : ℕ} {a b : Option ℕ} → readable k ≡ true → Holds k v a b → Found v a b
unfolding readable Holds
found_as hidden s h = clash s
found_as fixed s h = substituted h
found_as defined s h = remembered h.0 h.1

pub found : {D : Scope} {τ : Slots} {σ : Subst} {m : Local} (x : ℕ) → readable (D x) ≡ true → Agree D τ σ m → Found (τ x) (σ x) (m x)
found {D} x s a = found_as (D x) s (a.holds x)

-- ---- a slot is written
free_none : (k : Seen) (v : ℕ) (a b : Option ℕ) → definable k ≡ true → Holds k v a b → a ≡ none
unfolding definable Holds
free_none hidden v a b s h = h
free_none fixed v a b s h = clash s
free_none defined v a b s h = h.0

is_defined : (k : Seen) → settable k ≡ true → k ≡ defined
unfolding settable
is_defined hidden s = clash s
is_defined fixed s = clash s
is_defined defined s = refl

pub is_hidden : (k : Seen) → unnamed k ≡ true → k ≡ hidden
unfolding unnamed
is_hidden hidden s = refl
is_hidden fixed s = clash s
is_hidden defined s = clash s

agree_write : {D D' : Scope} {τ : Slots} {σ : Subst} {m : Local} (x v : ℕ) → σ x ≡ none → D' x ≡ defined → ((y : ℕ) → y ≢ x → D' y ≡ D y)
    → Agree D τ σ m → Agree D' (upd τ x v) σ (upd m x (some v))
unfolding Holds
agree_write {D} {D'} {τ} {σ} {m} x v z e o a = record { holds = λ y. go y (ℕ_discrete y x) }
  where
    go : (y : ℕ) → Dec (y ≡ x) → Holds (D' y) (upd τ x v y) (σ y) (upd m x (some v) y)
    go y (yes q) = rw (q, e, upd_same τ x v, upd_same m x (some v)) (z, refl)
    go y (no d) = rw (o y d, upd_other τ x v y d, upd_other m x (some v) y d) (a.holds y)

pub agree_def : {D : Scope} {τ : Slots} {σ : Subst} {m : Local} (x v : ℕ) → definable (D x) ≡ true → Agree D τ σ m
    → Agree (upd D x defined) (upd τ x v) σ (upd m x (some v))
agree_def {D} {τ} {σ} {m} x v f a =
    agree_write x v (free_none (D x) (τ x) (σ x) (m x) f (a.holds x)) (upd_same D x defined) (λ y d. upd_other D x defined y d) a

pub agree_set : {D : Scope} {τ : Slots} {σ : Subst} {m : Local} (x v : ℕ) → settable (D x) ≡ true → Agree D τ σ m → Agree D (upd τ x v) σ (upd m x (some v))
unfolding definable
agree_set {D} {τ} {σ} {m} x v s a =
    let e = is_defined (D x) s in
    agree_write x v (free_none (D x) (τ x) (σ x) (m x) (rw e refl) (a.holds x)) e (λ y d. refl) a

-- ---- a loop: x taken out, a pass of x, and the end of the pass
pub agree_out : {D : Scope} {τ : Slots} {σ : Subst} {m : Local} (x : ℕ) → D x ≡ hidden → Agree D τ σ m → Agree D τ (upd σ x none) m
unfolding Holds
agree_out {D} {τ} {σ} {m} x e a = record { holds = λ y. go y (ℕ_discrete y x) }
  where
    go : (y : ℕ) → Dec (y ≡ x) → Holds (D y) (τ y) (upd σ x none y) (m y)
    go y (yes q) = rw (q, e) (upd_same σ x none)
    go y (no d) = rw (upd_other σ x none y d) (a.holds y)

pub agree_pass : {D : Scope} {τ : Slots} {σ : Subst} {m : Local} (x i : ℕ) → Agree D τ σ m → Agree (upd D x fixed) (upd τ x i) (upd σ x (some i)) m
unfolding Holds
agree_pass {D} {τ} {σ} {m} x i a = record { holds = λ y. go y (ℕ_discrete y x) }
  where
    go : (y : ℕ) → Dec (y ≡ x) → Holds (upd D x fixed y) (upd τ x i y) (upd σ x (some i) y) (m y)
    go y (yes q) = rw (q, upd_same D x fixed, upd_same τ x i, upd_same σ x (some i)) refl
    go y (no d) = rw (upd_other D x fixed y d, upd_other τ x i y d, upd_other σ x (some i) y d) (a.holds y)

-- a statement makes slots visible and hides none: what was hidden may be defined
data Grows : Seen → Seen → Type 0 where
  same : {k : Seen} → Grows k k
  shown : Grows hidden defined

grows_trans : {a b c : Seen} → Grows a b → Grows b c → Grows a c
grows_trans same q = q
grows_trans shown same = shown

grows_defined : (k : Seen) → definable k ≡ true → Grows k defined
unfolding definable
grows_defined hidden f = shown
grows_defined fixed f = clash f
grows_defined defined f = same

module _ (π : ℕ → ℕ) (k : ℕ) where
  grows : (s : CStmt) (D : Scope) → SoundS π k D s → (y : ℕ) → Grows (D y) (after_s D s y)
  unfolding SoundS after_s
  grows SKIP D h y = same
  grows (s ⨾ t) D h y = grows_trans (grows s D h.0 y) (grows t (after_s D s) h.1 y)
  grows (DEF x e) D h y = go (ℕ_discrete y x)
    where
      go : Dec (y ≡ x) → Grows (D y) (upd D x defined y)
      go (yes q) = rw (q, upd_same D x defined) (grows_defined (D x) h.0)
      go (no d) = rw (upd_other D x defined y d) same
  grows (SET x e) D h y = same
  grows (PUT a i e) D h y = same
  grows (FOR x q r s) D h y = same

  holds_back : {a b : Seen} (v : ℕ) (c d : Option ℕ) → Grows a b → Holds b v c d → Holds a v c d
  unfolding Holds
  holds_back v c d same h = h
  holds_back v c d shown h = h.0

  pub agree_end : {D : Scope} {τ : Slots} {σ : Subst} {m : Local} (x : ℕ) (s : CStmt) → D x ≡ hidden → SoundS π k (upd D x fixed) s
      → Agree (after_s (upd D x fixed) s) τ σ m → Agree D τ (upd σ x none) m
  unfolding Holds
  agree_end {D} {τ} {σ} {m} x s e h a = record { holds = λ y. go y (ℕ_discrete y x) }
    where
      go : (y : ℕ) → Dec (y ≡ x) → Holds (D y) (τ y) (upd σ x none y) (m y)
      go y (yes q) = rw (q, e) (upd_same σ x none)
      go y (no d) =
          let g : Grows (D y) (after_s (upd D x fixed) s y) = rw (upd_other D x fixed y d) at (grows s (upd D x fixed) h y) in
          rw (upd_other σ x none y d) (holds_back (τ y) (σ y) (m y) g (a.holds y))

-- ---- a function begins
bind_in : (vs : List ℕ) (x : ℕ) → x < length vs → bind vs x ≡ some (get_or vs x 0)
unfolding bind
bind_in [] x h = absurd (omega arith)
bind_in (v ∷ vs) zero h = refl
bind_in (v ∷ vs) (suc x) h = bind_in vs x (omega arith)

bind_out : (vs : List ℕ) (x : ℕ) → length vs ≤ x → bind vs x ≡ none
unfolding bind
bind_out [] x h = refl
bind_out (v ∷ vs) zero h = absurd (omega arith)
bind_out (v ∷ vs) (suc x) h = bind_out vs x (omega arith)

pub agree_begin : (vs : List ℕ) (p : ℕ) → length vs ≡ p → Agree (begin p) (fresh vs) (bind vs) empty
unfolding begin parameter Holds
agree_begin vs p e = record { holds = λ x. go x (ltb x p) refl }
  where
    go : (x : ℕ) (t : Bool) → ltb x p ≡ t → Holds (parameter (ltb x p)) (get_or vs x 0) (bind vs x) (empty x)
    go x true q = rw q (bind_in vs x (omega (arith, ltb-true x p q)))
    go x false q = rw q (bind_out vs x (omega (arith, ltb-false x p q)))
