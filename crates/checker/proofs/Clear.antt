-- A record that has no fault meets every test; the code's two parts of a fault, the slot rule last, are the whole; and what an answer says of a
-- fault's number. Assumes nothing.
use Prim.Native.Nat.{ℕ, zero, suc}
use native.Mathlib.Omega.{arith}
use mathlib.Core.Path.{◌≡◌, refl, ◌∙◌}
use mathlib.Core.Bool.{Bool, true, false, true≢false, false≢true}
use Rattle.std.specs.Prelude.{Result, Ok, Err, is_err}
use Rattle.word.specs.Records.{same}
use Rattle.word.specs.declared.Record.{Record}
use Rattle.word.specs.declared.reason.Reason.{Reason}
use Rattle.word.proofs.Reasons.{number_some}
use Rattle.tape.specs.Instruction.{read, write}
use Rattle.tape.specs.Scan.{Scan}
use Rattle.tape.specs.Faults.{Asked, due, more, asks, unless, unmet, fault}
use Rattle.checker.specs.Ready.{said, fields_fault, fault_but}

pub record Met (s : Scan) (x : Record) : Type 0 where
  pub more : more s.due ≡ true
  pub due : due s.due x.kind ≡ true
  pub range : (asks s (read x)).range ≡ true
  pub loops : (asks s (read x)).loops ≡ true
  pub operands : (asks s (read x)).operands ≡ true
  pub slot : (asks s (read x)).slot ≡ true

-- a test before the rest
pub passed : (b : Bool) (n rest : ℕ) → unless b (suc n) rest ≡ 0 → b ≡ true
unfolding unless
passed true n rest e = refl
passed false n rest e = absurd (omega arith)

pub left : (b : Bool) (n rest : ℕ) → unless b (suc n) rest ≡ 0 → rest ≡ 0
unfolding unless
left true n rest e = e
left false n rest e = absurd (omega arith)

pub met : (s : Scan) (x : Record) → fault s x ≡ 0 → Met s x
unfolding fault unmet
met s x e =
    let a = asks s (read x) in
    let e₁ = left (more s.due) 25 _ e in
    let e₂ = left (due s.due x.kind) 21 _ e₁ in
    let e₃ = left (same x (write (read x))) 23 _ e₂ in
    let e₄ = left a.range 24 _ e₃ in
    let e₅ = left a.loops 26 _ e₄ in
    let e₆ = left a.operands 27 _ e₅ in
    record {
      more = passed (more s.due) 25 _ e;
      due = passed (due s.due x.kind) 21 _ e₁;
      range = passed a.range 24 _ e₃;
      loops = passed a.loops 26 _ e₄;
      operands = passed a.operands 27 _ e₅;
      slot = passed a.slot 28 _ e₆;
    }

-- what was found before wins
first_of : ℕ → ℕ → ℕ
first_of zero number = number
first_of (suc found) number = suc found

first_found : (n m : ℕ) → (n ≡ 0 → ⊥) → first_of n m ≡ n
unfolding first_of
first_found zero m h = absurd (h refl)
first_found (suc n) m h = refl

-- six tests, and then the slot's
before : Bool → Bool → Bool → Bool → Bool → Bool → ℕ → ℕ
before a b c d e f rest = unless a 26 (unless b 22 (unless c 24 (unless d 25 (unless e 27 (unless f 28 rest)))))

split : (a b c d e f : Bool) (rest : ℕ) → before a b c d e f rest ≡ first_of (before a b c d e f 0) rest
unfolding before unless first_of
split false b c d e f rest = refl
split true false c d e f rest = refl
split true true false d e f rest = refl
split true true true false e f rest = refl
split true true true true false f rest = refl
split true true true true true false rest = refl
split true true true true true true rest = refl

module _ (s : Scan) (x : Record) where
  abbrev a : Asked
  a = asks s (read x)

  fault_split : fault s x ≡ first_of (fault_but s x) (unless a.slot 29 0)
  unfolding fault fault_but fields_fault unmet before unless
  fault_split =
      split (more s.due) (due s.due x.kind) (same x (write (read x))) a.range a.loops a.operands (unless a.slot 29 0)

  -- a fault that the slot has no part in; and where there is none, the slot's
  pub fault_first : (fault_but s x ≡ 0 → ⊥) → fault s x ≡ fault_but s x
  fault_first h = fault_split ∙ first_found (fault_but s x) (unless a.slot 29 0) h

  pub fault_last : fault_but s x ≡ 0 → fault s x ≡ unless a.slot 29 0
  unfolding first_of
  fault_last e = fault_split ∙ rw e refl

-- ---- what an answer says of a fault's number
pub said_none : (r : Result (Unit {0}) Reason) → is_err r ≡ false → said r ≡ 0
unfolding said
said_none (Ok u) e = refl
said_none (Err r) e = absurd (true≢false e)

pub said_some : (r : Result (Unit {0}) Reason) → is_err r ≡ true → said r ≡ 0 → ⊥
unfolding said
said_some (Ok u) e h = false≢true e
said_some (Err r) e h = omega (arith, number_some r)

pub said_ok : (r : Result (Unit {0}) Reason) → is_err r ≡ false → r ≡ Ok tt
said_ok (Ok u) e = refl
said_ok (Err r) e = absurd (true≢false e)
