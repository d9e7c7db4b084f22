-- What is visible before a sound statement is visible after it, as it was: a DEF names no parameter and no open loop's slot. Assumes nothing.
use mathlib.Core.Path.{◌≡◌, refl, sym, ap, ◌∙◌}
use mathlib.Core.Bool.{true}
use Prim.Native.Nat.{ℕ}
use native.Mathlib.Omega.{arith}
use native.Mathlib.Decide.{ℕ_discrete}
use Rattle.word.specs.Slots.{upd, Seen, hidden, fixed, defined, Scope}
use Rattle.word.proofs.Memory.{upd_same, upd_other}
use Rattle.tape.specs.Core.{CStmt, SKIP, ◌⨾◌, DEF, SET, PUT, FOR}
use Rattle.tape.specs.Faults.{readable, definable}
use Rattle.tape.proofs.Sound.{after_s, SoundS}

readable_definable : (z : Seen) → readable z ≡ true → definable z ≡ true → defined ≡ z
unfolding readable definable
readable_definable hidden r d = let z : ◌≡◌ {A = ℕ} 0 1 = cc in absurd (omega arith)
readable_definable fixed r d = let z : ◌≡◌ {A = ℕ} 0 1 = cc in absurd (omega arith)
readable_definable defined r d = refl

module _ (π : ℕ → ℕ) (k : ℕ) where
  pub stays : (s : CStmt) (D : Scope) → SoundS π k D s → (x : ℕ) → readable (D x) ≡ true → after_s D s x ≡ D x
  unfolding after_s SoundS
  stays SKIP D h x r = refl
  stays (s ⨾ t) D h x r =
      let e = stays s D h.0 x r in
      stays t (after_s D s) h.1 x (ap readable e ∙ r) ∙ e
  stays (DEF y e) D h x r = go (ℕ_discrete x y)
    where
      go : Dec (x ≡ y) → upd D y defined x ≡ D x
      go (yes q) = rw q (upd_same D y defined ∙ readable_definable (D y) (sym (ap (λ (z : ℕ). readable (D z)) q) ∙ r) h.0)
      go (no d) = upd_other D y defined x d
  stays (SET y e) D h x r = refl
  stays (PUT a i e) D h x r = refl
  stays (FOR y from to s) D h x r = refl

  -- what is hidden after it was hidden before it
  pub was_hidden : (s : CStmt) (D : Scope) → SoundS π k D s → (x : ℕ) → after_s D s x ≡ hidden → D x ≡ hidden
  unfolding readable
  was_hidden s D h x e = go (D x) refl
    where
      stayed : (z : Seen) → D x ≡ z → readable z ≡ true → z ≡ hidden
      stayed z q r = sym q ∙ (sym (stays s D h x (ap readable q ∙ r)) ∙ e)

      go : (z : Seen) → D x ≡ z → D x ≡ hidden
      go hidden q = q
      go fixed q = q ∙ stayed fixed q refl
      go defined q = q ∙ stayed defined q refl
