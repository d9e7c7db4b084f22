-- The scan's state before each record of a tape; and what an accepted tape has at each: no fault. Assumes nothing.
use mathlib.Core.Path.{◌≡◌, refl, subst}
use mathlib.Core.Bool.{Bool, true, false, cond}
use mathlib.Core.List.{List}
use mathlib.Core.Logic.{⊎_elim}
use Prim.Native.Nat.{ℕ, zero, suc, ◌+◌, ◌≤◌, ◌<◌}
use native.Mathlib.Numerals.{add-one}
use native.Mathlib.Nat.{eq-or-lt_of_le}
use native.Mathlib.Omega.{arith}
use lib.ListN.{length, drop, drop_of_length-le}
use Rattle.word.specs.Records.{records, record_at, records_of, same, sized}
use Rattle.word.specs.declared.Record.{Record}
use Rattle.word.proofs.Records.{records_length, records_from, sized_iff}
use Rattle.tape.specs.Instruction.{read, write}
use Rattle.tape.specs.Scan.{Scan, start, next}
use Rattle.tape.specs.Faults.{due, more, asks, unless, unmet, fault}
use Rattle.tape.specs.Check.{at_end, judge, scan, check}
use Rattle.tape.specs.Check.{Checked}
use Rattle.std.specs.Prelude.{Ok}
use Rattle.word.specs.Refusals.{refuse}

unfoldable pub scan_at : List ℕ → ℕ → Scan
scan_at t zero = start
scan_at t (suc i) = next (scan_at t i) i (read (record_at t i))

-- ---- a record without a fault
pub record Clean (s : Scan) (x : Record) : Type 0 where
  pub due_now : more s.due ≡ true
  pub kind : due s.due x.kind ≡ true
  pub unused : same x (write (read x)) ≡ true
  pub range : (asks s (read x)).range ≡ true
  pub loops : (asks s (read x)).loops ≡ true
  pub operands : (asks s (read x)).operands ≡ true
  pub slot : (asks s (read x)).slot ≡ true

passes : (b : Bool) (n rest : ℕ) → unless b (suc n) rest ≡ 0 → (b ≡ true) × (rest ≡ 0)
unfolding unless
passes true n rest e = (refl, e)
passes false n rest e = absurd (omega arith)

pub clean : (s : Scan) (x : Record) → fault s x ≡ 0 → Clean s x
unfolding fault unmet
clean s x e =
    let a = passes (more s.due) 25 _ e in
    let b = passes (due s.due x.kind) 21 _ a.1 in
    let c = passes (same x (write (read x))) 23 _ b.1 in
    let d = passes (asks s (read x)).range 24 _ c.1 in
    let f = passes (asks s (read x)).loops 26 _ d.1 in
    let g = passes (asks s (read x)).operands 27 _ f.1 in
    let h = passes (asks s (read x)).slot 28 _ g.1 in
    record { due_now = a.0; kind = b.0; unused = c.0; range = d.0; loops = f.0; operands = g.0; slot = h.0 }

-- ---- an accepted tape
pub never : {number place m : ℕ} → refuse number place ≡ Ok m → ⊥
never e = let z : ◌≡◌ {A = ℕ} 0 1 = cc in omega arith

judged : (n at m : ℕ) (rest : Checked) → judge n at rest ≡ Ok m → (n ≡ 0) × (rest ≡ Ok m)
unfolding judge
judged zero at m rest e = (refl, e)
judged (suc n) at m rest e = absurd (never e)

sized_or : (b : Bool) (rest : Checked) (m : ℕ) → cond b rest (refuse 21 0) ≡ Ok m → (b ≡ true) × (rest ≡ Ok m)
sized_or true rest m e = (refl, e)
sized_or false rest m e = absurd (never e)

-- whole records, few enough; no record with a fault; and how it ends
pub record Passed (t : List ℕ) (m : ℕ) : Type 0 where
  pub whole : length t ≡ records t + records t + records t + records t
  pub few : records t ≤ 131072
  pub faultless : (i : ℕ) → i < records t → Clean (scan_at t i) (record_at t i)
  pub ends : at_end (more (scan_at t (records t)).due) (scan_at t (records t)) (records t) ≡ Ok m

record Rest (t : List ℕ) (m i : ℕ) : Type 0 where
  faultless : (j : ℕ) → i ≤ j → j < records t → Clean (scan_at t j) (record_at t j)
  ends : at_end (more (scan_at t (records t)).due) (scan_at t (records t)) (records t) ≡ Ok m

walk : (t : List ℕ) (m n i : ℕ) → i + n ≡ records t → scan (scan_at t i) i (drop i (records_of t)) ≡ Ok m → Rest t m i
unfolding scan scan_at
walk t m zero i l e =
    let q : i ≡ records t = omega arith in
    let none = drop_of_length-le (records_of t) {i = i} (omega (arith, records_length t)) in
    record {
      faultless = λ j a b. absurd (omega arith);
      ends = rw q at (rw none at e);
    }
walk t m (suc n) i l e =
    let h : i < records t = omega arith in
    let g = judged (fault (scan_at t i) (record_at t i)) i m _ (rw (records_from t i h) at e) in
    let rest = walk t m n (suc i) (omega arith) (rw (add-one i) at g.1) in
    let here = clean (scan_at t i) (record_at t i) g.0 in
    record {
      faultless = λ j a b. ⊎_elim (λ q. subst (λ (k : ℕ). Clean (scan_at t k) (record_at t k)) q here) (λ k. rest.faultless j k b) (eq-or-lt_of_le a);
      ends = rest.ends;
    }

pub passed : (t : List ℕ) (m : ℕ) → check t ≡ Ok m → Passed t m
unfolding check scan_at
passed t m e =
    let g = sized_or (sized 131072 (length t)) (scan start 0 (records_of t)) m e in
    let a = (sized_iff 131072 (length t)).0 g.0 in
    let rest = walk t m (records t) 0 (omega arith) g.1 in
    record {
      whole = omega (arith, a.1);
      few = a.2;
      faultless = λ i h. rest.faultless i (omega arith) h;
      ends = rest.ends;
    }
