-- The record where one of a class is due: it passes its tests (2 to 5) exactly if it is the one that the class writes for a head in range. And what
-- reading the parts in order says of each. Assumes nothing.
use mathlib.Core.Path.{◌≡◌, refl, sym, ap, ◌∙◌, subst₂}
use mathlib.Core.Bool.{Bool, true, false, cond}
use mathlib.Core.List.{List, ◌∷◌}
use mathlib.Core.Logic.{◌↔◌}
use Prim.Native.Nat.{ℕ, suc, ◌+◌, ◌<◌}
use native.Mathlib.Numerals.{add-one}
use native.Mathlib.Omega.{arith}
use borrow.Author.Tests.{ltb-true, ltb-false, lt-ltb}
use lib.Dec.{ltb}
use lib.ListN.{drop, drop_of_length-le}
use Rattle.word.specs.Records.{records, record_at, records_of, same}
use Rattle.word.specs.declared.Record.{Record}
use Rattle.word.proofs.Records.{records_length, records_from, same_true, same_self}
use Rattle.script.specs.Table.{HeadE, NUM, TRUE, FALSE, VAR, GET, LNOT, BNOT, BIN, CALL, HeadS, SKIP, SEQ, DEF, SET, PUT, FOR, IF, RETURN, Class, read_e, write_e, read_s, write_s, expression, statement, program, array, function, Lead, node, fault, lead_by, lead}
use Rattle.script.specs.Parse.{Parsed, parsed, refused, and_then}
use Rattle.script.specs.declared.Env.{Env}

-- ---- a class reads what it writes, and has its kind
pub record Lawful {A : Type 0} (c : Class A) : Type 0 where
  pub again : (h : A) → c.read (c.write h) ≡ h
  pub kind : (h : A) → c.due (c.write h).kind ≡ true

again_e : (h : HeadE) → read_e (write_e h) ≡ h
unfolding read_e write_e
again_e (NUM v) = refl
again_e TRUE = refl
again_e FALSE = refl
again_e (VAR x) = refl
again_e (GET a) = refl
again_e LNOT = refl
again_e BNOT = refl
again_e (BIN o) = refl
again_e (CALL f) = refl

again_s : (h : HeadS) → read_s (write_s h) ≡ h
unfolding read_s write_s
again_s SKIP = refl
again_s (SEQ n) = refl
again_s (DEF x) = refl
again_s (SET x) = refl
again_s (PUT a) = refl
again_s (FOR x q r) = refl
again_s IF = refl
again_s RETURN = refl

kind_e : (h : HeadE) → expression.due (write_e h).kind ≡ true
unfolding expression write_e
kind_e (NUM v) = refl
kind_e TRUE = refl
kind_e FALSE = refl
kind_e (VAR x) = refl
kind_e (GET a) = refl
kind_e LNOT = refl
kind_e BNOT = refl
kind_e (BIN o) = refl
kind_e (CALL f) = refl

kind_s : (h : HeadS) → statement.due (write_s h).kind ≡ true
unfolding statement write_s
kind_s SKIP = refl
kind_s (SEQ n) = refl
kind_s (DEF x) = refl
kind_s (SET x) = refl
kind_s (PUT a) = refl
kind_s (FOR x q r) = refl
kind_s IF = refl
kind_s RETURN = refl

pub expression_lawful : Lawful expression
unfolding expression
expression_lawful = record { again = again_e; kind = kind_e }

pub statement_lawful : Lawful statement
unfolding statement
statement_lawful = record { again = again_s; kind = kind_s }

pub program_lawful : Lawful program
unfolding program
program_lawful = record { again = λ h. refl; kind = λ h. refl }

pub array_lawful : Lawful array
unfolding array
array_lawful = record { again = λ h. refl; kind = λ h. refl }

pub function_lawful : Lawful function
unfolding function
function_lawful = record { again = λ h. refl; kind = λ h. refl }

-- ---- the tests of one record
passes : {A : Type 0} (b : Bool) (l : Lead A) (number place : ℕ) {h : A} → cond b l (fault number place) ≡ node h → (b ≡ true) × (l ≡ node h)
passes true l number place e = (refl, e)
passes false l number place e = let z : ◌≡◌ {A = ℕ} 0 1 = cc in absurd (omega arith)

record_leads : {A : Type 0} {c : Class A} → Lawful c → (e : Env) (x : Record) (at : ℕ) (h : A)
    → (lead_by c e x at ≡ node h) ↔ ((x ≡ c.write h) × (c.in_range e h ≡ true))
unfolding lead_by
record_leads {A} {c} 𝓒 e x at h = (
  λ q.
      let (kind, q₁) = passes (c.due x.kind) _ 2 at q in
      let (unused, q₂) = passes (same x (c.write (c.read x))) _ 4 at q₁ in
      let (range, q₃) = passes (c.in_range e (c.read x)) _ 5 at q₂ in
      let is : c.read x ≡ h = cc in
      (same_true x _ unused ∙ ap c.write is, sym (ap (c.in_range e) is) ∙ range),
  λ r. rw (r.0, 𝓒.kind h, 𝓒.again h, same_self (c.write h), r.1) refl,
)

-- ---- the records from a place on
abbrev pub from : List ℕ → ℕ → List Record
from t at = drop at (records_of t)

module _ (t : List ℕ) (at : ℕ) where
  -- they begin with the one there
  pub first_from : {x : Record} {rest : List Record} → from t at ≡ x ∷ rest → (at < records t) × (record_at t at ≡ x) × (from t (at + 1) ≡ rest)
  first_from {x} {rest} e = by (ltb at (records t)) refl
    where
      by : (b : Bool) → ltb at (records t) ≡ b → (at < records t) × (record_at t at ≡ x) × (from t (at + 1) ≡ rest)
      by true b =
          let h = ltb-true at (records t) b in
          let q = sym (records_from t at h) ∙ e in
          (h, cc, rw (add-one at) cc)
      by false b =
          let none = drop_of_length-le (records_of t) {i = at} (omega (arith, records_length t, ltb-false at (records t) b)) in
          let z : ◌≡◌ {A = ℕ} 0 1 = cc in
          absurd (omega arith)

  pub leads : {A : Type 0} {c : Class A} → Lawful c → (e : Env) (h : A)
      → (lead c e t at ≡ node h) ↔ ((from t at ≡ c.write h ∷ from t (at + 1)) × (c.in_range e h ≡ true))
  unfolding lead
  leads {A} {c} 𝓒 e h = (
    λ q.
        let (b, q₁) = passes (ltb at (records t)) _ 3 (records t) q in
        let (is, range) = (record_leads 𝓒 e (record_at t at) at h).0 q₁ in
        (records_from t at (ltb-true at (records t) b) ∙ ap (◌∷ drop (suc at) (records_of t)) is ∙ rw (add-one at) refl, range),
    λ r.
        let (there, is, rest) = first_from r.0 in
        rw (lt-ltb at (records t) there) ((record_leads 𝓒 e (record_at t at) at h).1 (is, r.1)),
  )

  -- a record that was written, before others
  pub leads_on : {A : Type 0} {c : Class A} → Lawful c → (e : Env) (h : A) {rest : List Record} → from t at ≡ c.write h ∷ rest → c.in_range e h ≡ true
      → (lead c e t at ≡ node h) × (from t (at + 1) ≡ rest)
  leads_on {A} {c} 𝓒 e h is range =
      let (there, first, on) = first_from is in
      ((leads 𝓒 e h).1 (is ∙ ap (c.write h ∷◌) (sym on), range), on)

-- ---- what was read
pub never : {A : Type 0} {number place : ℕ} {a : A} {i : ℕ} → refused number place ≡ parsed a i → ⊥
never e = let z : ◌≡◌ {A = ℕ} 0 1 = cc in omega arith

-- what holds of a tree and the record after it
pub as_parsed : {A : Type 0} (P : A → ℕ → Type 0) {a b : A} {i j : ℕ} → parsed a i ≡ parsed b j → P a i → P b j
as_parsed P {a} {b} {i} {j} e h = let p : a ≡ b = cc in let q : i ≡ j = cc in subst₂ P p q h

pub then_parsed : {A B : Type 0} (p : Parsed A) {g : A → ℕ → Parsed B} {b : B} {j : ℕ} → and_then p g ≡ parsed b j
    → (a : A) × (i : ℕ) × (p ≡ parsed a i) × (g a i ≡ parsed b j)
unfolding and_then
then_parsed (parsed a i) e = (a, i, refl, e)
then_parsed (refused number place) e = absurd (never e)

-- behind a record without a fault
pub node_parsed : {A B : Type 0} (G : Lead A → Parsed B) → ((number place : ℕ) → G (fault number place) ≡ refused number place)
    → (l : Lead A) {b : B} {j : ℕ} → G l ≡ parsed b j → (h : A) × (l ≡ node h) × (G (node h) ≡ parsed b j)
node_parsed G f (node h) e = (h, refl, e)
node_parsed G f (fault number place) e = absurd (never (sym (f number place) ∙ e))

-- and two records that say the same have one head
pub one_head : {A : Type 0} {l m : Lead A} {h g : A} → m ≡ l → l ≡ node h → m ≡ node g → h ≡ g
one_head e p q = cc
