-- The record where one of a class is due: what is read there is what follows a record that is found and leads a part of the class, or its refusal.
-- Assumes nothing.
use Rattle.std.proofs.Common.{◌≡◌, ℕ, ◌+◌, Bool, true, false, cond, List, refl, ltb, arith}
use Rattle.std.specs.Prelude.{Ok}
use Rattle.word.specs.Records.{records, record_at, same}
use Rattle.word.specs.Reader.{found_if, read_at}
use Rattle.word.specs.Refusals.{OrRefused, refuse, ◌>>=◌}
use Rattle.word.specs.declared.Record.{Record}
use Rattle.word.specs.declared.reader.Reader.{Reader}
use Rattle.script.specs.Table.{Class, Lead, node, fault, lead_by, lead}
use Rattle.script.specs.declared.Env.{Env}
use Rattle.reading.specs.Structure.{due_of, leads}

abbrev tested : {A : Type 0} → Bool → Bool → Bool → A → ℕ → Lead A
tested due blank range h at = cond due (cond blank (cond range (node h) (fault 5 at)) (fault 4 at)) (fault 2 at)

-- where it leads, its fields are in range
pub in_range : {A : Type 0} (c : Class A) (e : Env) (x : Record) (at : ℕ) → leads (lead_by c e x at) ≡ Ok tt → c.in_range e (c.read x) ≡ true
unfolding leads lead_by
in_range c e x at is = by (c.due x.kind) (same x (c.write (c.read x))) (c.in_range e (c.read x)) is
  where
    by : (due blank range : Bool) → leads (tested due blank range (c.read x) at) ≡ Ok tt → range ≡ true
    by true true true h = refl
    by true true false h = let z : ◌≡◌ {A = ℕ} 0 1 = cc in absurd (omega arith)
    by true false range h = let z : ◌≡◌ {A = ℕ} 0 1 = cc in absurd (omega arith)
    by false blank range h = let z : ◌≡◌ {A = ℕ} 0 1 = cc in absurd (omega arith)

-- F reads on where the record leads, and G says how
module _ {A B : Type 0} (c : Class A) (e : Env) (t : List ℕ) (at : ℕ) (F : Lead A → OrRefused B) (G : Record → Reader → OrRefused B)
    (on : (x : Record) (r : Reader) → r ≡ record { at = at + 1 } → F (node (c.read x)) ≡ G x r) (off : (number place : ℕ) → F (fault number place) ≡ refuse number place) where
  by_tests : (due blank range : Bool) (x : Record) (r : Reader) → r ≡ record { at = at + 1 }
      → F (tested due blank range (c.read x) at) ≡ (leads (tested due blank range (c.read x) at) >>= λ u. G x r)
  unfolding leads
  by_tests true true true x r next = on x r next
  by_tests true true false x r next = off 5 at
  by_tests true false range x r next = off 4 at
  by_tests false blank range x r next = off 2 at

  by_place : (there : Bool) → F (cond there (lead_by c e (record_at t at) at) (fault 3 (records t)))
      ≡ (due_of t (found_if there t at) >>= λ found. leads (lead_by c e found.0 at) >>= λ u. G found.0 found.1)
  unfolding due_of found_if lead_by
  by_place true =
      let x = record_at t at in
      by_tests (c.due x.kind) (same x (c.write (c.read x))) (c.in_range e (c.read x)) x (record { at = at + 1 }) refl
  by_place false = off 3 (records t)

  pub lead_is : F (lead c e t at) ≡ (due_of t (read_at t at) >>= λ found. leads (lead_by c e found.0 at) >>= λ u. G found.0 found.1)
  unfolding lead read_at
  lead_is = by_place (ltb at (records t))
