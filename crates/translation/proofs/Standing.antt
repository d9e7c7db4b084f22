-- What the scope of a script and that of its tape have in common, place by place: what the script sees the tape sees, as it is; what the script
-- has not declared the tape has not named; and the translation's own slots are DEF'd. The tape sees more: an IF leaves no scope there, so that a
-- branch's slots stay visible after it. Assumes nothing.
use mathlib.Core.Path.{◌≡◌, refl, sym, ap, ◌∙◌}
use mathlib.Core.Bool.{Bool, true, false}
use Prim.Native.Nat.{ℕ, suc, ◌≤◌, ◌<◌}
use native.Mathlib.Nat.{not-suc-le-zero}
use native.Mathlib.Omega.{arith}
use native.Mathlib.Decide.{ℕ_discrete}
use borrow.Author.Tests.{ltb-true, le-ltb}
use lib.Dec.{ltb}
use Rattle.word.specs.Slots.{upd, Seen, hidden, defined, Scope, parameter, begin}
use Rattle.word.proofs.Memory.{upd_same, upd_other}
use Rattle.script.specs.Scope.{Names, declare, parameters}
use Rattle.script.proofs.Scoping.{closed}
use Rattle.script.proofs.Declaring.{undeclared}
use Rattle.tape.specs.Core.{CStmt}
use Rattle.tape.specs.Faults.{readable, definable}
use Rattle.tape.proofs.Sound.{after_s, SoundS}
use Rattle.tape.proofs.Staying.{stays}
use Rattle.translation.proofs.Relation.{rval, rnset, condition}

-- in a function with n slots, with d IFs round
pub record Stands (n d : ℕ) (N : Names) (D : Scope) : Type 0 where
  pub low : (x : ℕ) → readable (N.seen x) ≡ true → x < n
  pub same : (x : ℕ) → readable (N.seen x) ≡ true → D x ≡ N.seen x
  pub unnamed : (x : ℕ) → x < n → N.declared x ≡ false → D x ≡ hidden
  pub value : D (rval n) ≡ defined
  pub unset : D (rnset n) ≡ defined
  pub round : (j : ℕ) → j < d → D (condition n j) ≡ defined
  pub free : (j : ℕ) → definable (D (condition n j)) ≡ true

module _ {n d : ℕ} {N : Names} {D : Scope} where
  -- a slot of the script is declared, as a DEF's or a loop's
  pub stands_declare : {x : ℕ} (z : Seen) → x < n → Stands n d N D → Stands n d (declare N x z) (upd D x z)
  unfolding declare
  stands_declare {x} z l st =
      record {
        low = λ y r. low y (ℕ_discrete y x) r;
        same = λ y r. same y (ℕ_discrete y x) r;
        unnamed = λ y h e. let u = undeclared N x z e in upd_other D x z y u.0 ∙ st.unnamed y h u.1;
        value = upd_other D x z (rval n) (omega arith) ∙ st.value;
        unset = upd_other D x z (rnset n) (omega arith) ∙ st.unset;
        round = λ j h. upd_other D x z (condition n j) (omega arith) ∙ st.round j h;
        free = λ j. ap definable (upd_other D x z (condition n j) (omega arith)) ∙ st.free j;
      }
    where
      low : (y : ℕ) → Dec (y ≡ x) → readable (upd N.seen x z y) ≡ true → y < n
      low y (yes q) r = omega arith
      low y (no e) r = st.low y (sym (ap readable (upd_other N.seen x z y e)) ∙ r)

      same : (y : ℕ) → Dec (y ≡ x) → readable (upd N.seen x z y) ≡ true → upd D x z y ≡ upd N.seen x z y
      same y (yes q) r = rw q (upd_same D x z ∙ sym (upd_same N.seen x z))
      same y (no e) r =
          let u = upd_other N.seen x z y e in
          upd_other D x z y e ∙ st.same y (sym (ap readable u) ∙ r) ∙ sym u

  -- the condition of an IF is DEF'd
  pub stands_deeper : Stands n d N D → Stands n (suc d) N (upd D (condition n d) defined)
  unfolding definable
  stands_deeper st =
      record {
        low = st.low;
        same = λ y r. let h = st.low y r in upd_other D c defined y (omega arith) ∙ st.same y r;
        unnamed = λ y h e. upd_other D c defined y (omega arith) ∙ st.unnamed y h e;
        value = upd_other D c defined (rval n) (omega arith) ∙ st.value;
        unset = upd_other D c defined (rnset n) (omega arith) ∙ st.unset;
        round = λ j h. round j (ℕ_discrete j d) h;
        free = λ j. free j (ℕ_discrete j d);
      }
    where
      c : ℕ
      c = condition n d

      round : (j : ℕ) → Dec (j ≡ d) → j < suc d → upd D c defined (condition n j) ≡ defined
      round j (yes q) h = rw q (upd_same D c defined)
      round j (no e) h = upd_other D c defined (condition n j) (omega arith) ∙ st.round j (omega arith)

      free : (j : ℕ) → Dec (j ≡ d) → definable (upd D c defined (condition n j)) ≡ true
      free j (yes q) = rw (q, upd_same D c defined)
      free j (no e) = rw (upd_other D c defined (condition n j) (omega arith)) (st.free j)

  -- back at the depth round an IF
  pub stands_shallower : Stands n (suc d) N D → Stands n d N D
  stands_shallower st =
      record {
        low = st.low;
        same = st.same;
        unnamed = st.unnamed;
        value = st.value;
        unset = st.unset;
        round = λ j h. st.round j (omega arith);
        free = st.free;
      }

  module _ (M : Names) where
    -- the end of a branch: the tape still sees what the script saw before it
    pub stands_closed : (π : ℕ → ℕ) (k : ℕ) (s : CStmt) → SoundS π k D s → Stands n d N D → Stands n d M (after_s D s) → Stands n d (closed N M) (after_s D s)
    stands_closed π k s h st en =
        record {
          low = st.low;
          same = λ x r. let e = st.same x r in stays π k s D h x (ap readable e ∙ r) ∙ e;
          unnamed = en.unnamed;
          value = en.value;
          unset = en.unset;
          round = en.round;
          free = en.free;
        }

    -- the end of a loop, where the tape sees what it saw before
    pub stands_loop : Stands n d N D → ((x : ℕ) → x < n → M.declared x ≡ false → D x ≡ hidden) → Stands n d (closed N M) D
    stands_loop st u =
        record {
          low = st.low;
          same = st.same;
          unnamed = u;
          value = st.value;
          unset = st.unset;
          round = st.round;
          free = st.free;
        }

-- ---- where a function begins: its parameters, and then rval and rnset, DEF'd
abbrev pub opened : ℕ → ℕ → Scope
opened p n = upd (upd (begin p) (rval n) defined) (rnset n) defined

begin_hidden : (p x : ℕ) → p ≤ x → begin p x ≡ hidden
unfolding begin parameter
begin_hidden p x h = ap parameter (le-ltb x p h)

begin_low : (p x : ℕ) → readable (begin p x) ≡ true → x < p
unfolding begin parameter readable
begin_low p x r = go (ltb x p) refl r
  where
    go : (b : Bool) → ltb x p ≡ b → readable (parameter b) ≡ true → x < p
    go true e q = ltb-true x p e
    go false e q = let z : ◌≡◌ {A = ℕ} 0 1 = cc in absurd (omega arith)

pub begin_definable : (p x : ℕ) → p ≤ x → definable (begin p x) ≡ true
unfolding definable
begin_definable p x h = ap definable (begin_hidden p x h)

pub stands_begin : (n p : ℕ) → p ≤ n → Stands n 0 (parameters p) (opened p n)
unfolding parameters
stands_begin n p l =
    record {
      low = λ x r. let h = begin_low p x r in omega arith;
      same = λ x r. let h = begin_low p x r in apart x (omega arith);
      unnamed = λ x h e. apart x h ∙ unfold begin parameter in ap parameter e;
      value = upd_other R (rnset n) defined (rval n) (omega arith) ∙ upd_same (begin p) (rval n) defined;
      unset = upd_same R (rnset n) defined;
      round = λ j h. absurd (not-suc-le-zero h);
      free = λ j. rw (upd_other R (rnset n) defined (condition n j) (omega arith), upd_other (begin p) (rval n) defined (condition n j) (omega arith))
          (begin_definable p (condition n j) (omega arith));
    }
  where
    R : Scope
    R = upd (begin p) (rval n) defined

    apart : (x : ℕ) → x < n → opened p n x ≡ begin p x
    apart x h = upd_other R (rnset n) defined x (omega arith) ∙ upd_other (begin p) (rval n) defined x (omega arith)
