-- The relation of flat state and machine, moved on: callers stay as they are, and the present function's part from one record to the next. Over an
-- accepted tape. Assumes nothing.
use mathlib.Core.Path.{◌≡◌, sym, ap, ◌∙◌, subst}
use mathlib.Core.Bool.{true}
use mathlib.Core.List.{List}
use Prim.Native.Nat.{ℕ, suc, ◌+◌, ◌<◌}
use native.Mathlib.Omega.{arith}
use lib.ListN.{length, get_or, set as put_at}
use lib.Seq.{get_or-set_other}
use Rattle.word.specs.Slots.{Slots}
use Rattle.word.specs.Records.{records, record_at}
use Rattle.tape.specs.Instruction.{Instruction, read}
use Rattle.tape.specs.Scan.{a_body, next}
use Rattle.tape.specs.Faults.{more, readable}
use Rattle.tape.specs.Rules.{Loop, Frame}
use Rattle.tape.proofs.Places.{scan_at, Passed}
use Rattle.tape.proofs.Steady.{Asks, Fine, fine_at}
use Rattle.tape.proofs.Declared.{goes_on}
use Rattle.machine.specs.Flat.{Flat}
use Rattle.machine.proofs.Piled.{Piled, piled_height}
use Rattle.machine.proofs.Relation.{Inside, On, Under, bottom, above, Kept, kept_less, piled_same, looped_height, looped_same, looped_wider}

-- a list with something put at j, read below j
pub below_put : (l : List ℕ) (j v i : ℕ) → i < j → get_or (put_at l j v) i 0 ≡ get_or l i 0
below_put l j v i h = get_or-set_other l j i v 0 (λ e. omega arith)

-- the lists are as long as they are declared
pub record Sized (s : Flat) : Type 0 where
  pub fors : length s.fors ≡ 128
  pub passes : length s.passes ≡ 128
  pub backs : length s.backs ≡ 16
  pub bases : length s.bases ≡ 16
  pub operands : length s.operands ≡ 2048
  pub slots : length s.slots ≡ 1024

module _ (t : List ℕ) (m : ℕ) (a : Passed t m) where
  pub fine : (i : ℕ) → i < records t → Fine (scan_at t i)
  fine i h = fine_at t m a i (omega arith)

  -- what the check has shown of the record at hand, where it says x
  pub asked_at : (i : ℕ) (x : Instruction) → i < records t → read (record_at t i) ≡ x → Asks (scan_at t i) x
  asked_at i x h e =
      let c = a.faultless i h in
      subst (λ (y : Instruction). Asks (scan_at t i) y) e (record { range = c.range; loops = c.loops; operands = c.operands; slot = c.slot })

  pub scan_next : (i : ℕ) (x : Instruction) → read (record_at t i) ≡ x → scan_at t (suc i) ≡ next (scan_at t i) i x
  unfolding scan_at
  scan_next i x e = ap (next (scan_at t i) i) e

  -- a body goes on
  pub next_record : (i : ℕ) → i < records t → (scan_at t (suc i)).due ≡ a_body → suc i < records t
  unfolding more
  next_record i h e = goes_on t m a (suc i) h (ap more e)

  -- ---- callers
  pub on_same : {s z : Flat} {b floor floor₁ low low₁ base base₁ c : ℕ} {values : List ℕ} {τ : Slots} {L : List Loop} → Kept s z floor low base c
      → On t s b 1 floor floor₁ low low₁ base₁ base c values τ L → On t z b 1 floor floor₁ low low₁ base₁ base c values τ L
  on_same {b} {base} {base₁} k o =
      let f = fine b o.on_tape in
      let q = o.top_is in
      record {
        on_tape = o.on_tape;
        in_body_lem = o.in_body_lem;
        piled = piled_same k.operands o.piled;
        height = o.height;
        loops = looped_same k.fors k.passes o.loops;
        agree = λ x v. k.slots (base₁ + x) (let l = f.visible x v in omega arith) ∙ o.agree x v;
        top_is = o.top_is;
        rank = o.rank;
        low_floor = o.low_floor;
        low_loops = o.low_loops;
        low_base = o.low_base;
      }

  pub under_same : {s z : Flat} {calls floor low base : ℕ} {F : List Frame} → Kept s z floor low base calls → Under t s calls floor low base F
      → Under t z calls floor low base F
  under_same k bottom = bottom
  under_same k (above {c = c} b base₁ e d f o u) =
      let x = piled_height o.piled in
      let y = looped_height o.loops in
      let q = o.top_is in
      above b base₁ (k.backs c (omega arith) ∙ e) (k.bases c (omega arith) ∙ d) f (on_same (kept_less (omega arith) (omega arith) (omega arith) (omega arith) k) o)
      (under_same (kept_less (omega arith) (omega arith) (omega arith) (omega arith) k) u)

  -- ---- from record i to the next, in the same function and the same loops
  pub on_move : {s z : Flat} {i n floor deep low base top calls : ℕ} {values : List ℕ} {τ : Slots} {L : List Loop} (n₁ : ℕ) (values₁ : List ℕ) (τ₁ : Slots)
      → On t s i 0 n floor deep low base top calls values τ L
      → (scan_at t (suc i)).due ≡ a_body → (scan_at t (suc i)).known ≡ (scan_at t i).known → (scan_at t (suc i)).slots ≡ (scan_at t i).slots
      → (scan_at t (suc i)).body.loops ≡ (scan_at t i).body.loops → Inside (scan_at t i).body.scope (scan_at t (suc i)).body.scope
      → z.fors ≡ s.fors → z.passes ≡ s.passes → Piled z.operands floor n₁ values₁ → length values₁ + 0 ≡ (scan_at t (suc i)).body.operands
      → ((x : ℕ) → readable ((scan_at t (suc i)).body.scope x) ≡ true → get_or z.slots (base + x) 0 ≡ τ₁ x)
      → On t z (suc i) 0 n₁ floor deep low base top calls values₁ τ₁ L
  on_move {i} {base} n₁ values₁ τ₁ o d k v l w f p piled height agree =
      record {
        on_tape = next_record i o.on_tape d;
        in_body_lem = d;
        piled = piled;
        height = height;
        loops = rw (f, p, k, v, l) (looped_wider w o.loops);
        agree = agree;
        top_is = o.top_is ∙ ap (λ (n : ℕ). base + n) (sym v);
        rank = rw k o.rank;
        low_floor = o.low_floor;
        low_loops = o.low_loops;
        low_base = o.low_base;
      }
