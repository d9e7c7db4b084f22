-- How the flat state stands for a machine of the core rules, on an accepted tape: the record at hand tells the code; operands, loops and slots of the
-- present function lie above those of its callers; and the scan of the check tells how many there are. Assumes nothing.
use mathlib.Core.Path.{◌≡◌, ◌∙◌}
use mathlib.Core.Bool.{true}
use mathlib.Core.List.{List, [], ◌∷◌}
use Prim.Native.Nat.{ℕ, suc, ◌+◌, ◌-◌, ◌*◌, ◌≤◌, ◌<◌}
use native.Mathlib.Omega.{arith}
use lib.ListN.{length, get_or, drop}
use Rattle.word.specs.Slots.{Slots, upd, fixed, Scope}
use Rattle.word.specs.Records.{records, record_at}
use Rattle.tape.specs.Instruction.{for, read, code_of}
use Rattle.tape.specs.Scan.{a_body, Known, Open}
use Rattle.tape.specs.Faults.{readable}
use Rattle.tape.specs.Rules.{World, Loop, Frame, Machine, at, halted}
use Rattle.tape.proofs.Places.{scan_at}
use Rattle.machine.specs.Flat.{Flat}
use Rattle.machine.proofs.Piled.{Piled, bare, pile}

-- what is visible in D is visible in E
pub record Inside (D E : Scope) : Type 0 where
  pub sees : (x : ℕ) → readable (D x) ≡ true → readable (E x) ≡ true

pub inside_same : (D : Scope) → Inside D D
inside_same D = record { sees = λ x h. h }

pub inside_then : {C D E : Scope} → Inside C D → Inside D E → Inside C E
inside_then p q = record { sees = λ x h. q.sees x (p.sees x h) }

-- an open loop: its FOR is record f, where the scan stood in the body round it
pub record Opened (t : List ℕ) (known : List Known) (slots f q : ℕ) (o : Open) (os : List Open) (l : Loop) : Type 0 where
  pub there : f < records t
  pub is : read (record_at t f) ≡ for l.slot q l.to
  pub body : l.body ≡ drop (suc f) (code_of t)
  pub passing : l.pass < l.to
  pub due_there : (scan_at t f).due ≡ a_body
  pub known_there : (scan_at t f).known ≡ known
  pub slots_there : (scan_at t f).slots ≡ slots
  pub loops_there : (scan_at t f).body.loops ≡ os
  pub is_open : o ≡ record { passes = l.to - q; scope = (scan_at t f).body.scope; steps = (scan_at t f).body.steps }

-- the loops of one function, from `low` up: the flat lists, the scan's and the machine's; D is the scope in the innermost
pub data Looped (t fors passes : List ℕ) (known : List Known) (slots low : ℕ) : ℕ → Scope → List Open → List Loop → Type 0 where
  outside : {D : Scope} → Looped t fors passes known slots low low D [] []
  looped : {d f q : ℕ} {D : Scope} {o : Open} {os : List Open} {l : Loop} {L : List Loop} → get_or fors d 0 ≡ f → get_or passes d 0 ≡ l.pass
      → Opened t known slots f q o os l → Inside (upd o.scope l.slot fixed) D
      → Looped t fors passes known slots low d o.scope os L → Looped t fors passes known slots low (suc d) D (o ∷ os) (l ∷ L)

-- one function's part: at record i, with n operands from `floor` (a caller waits for one more), loops from `low`, slots from `base` to `top`
pub record On (t : List ℕ) (s : Flat) (i waits n floor deep low base top calls : ℕ) (values : List ℕ) (τ : Slots) (L : List Loop) : Type 0 where
  pub on_tape : i < records t
  pub in_body_lem : (scan_at t i).due ≡ a_body
  pub piled : Piled s.operands floor n values
  pub height : length values + waits ≡ (scan_at t i).body.operands
  pub loops : Looped t s.fors s.passes (scan_at t i).known (scan_at t i).slots low deep (scan_at t i).body.scope (scan_at t i).body.loops L
  pub agree : (x : ℕ) → readable ((scan_at t i).body.scope x) ≡ true → get_or s.slots (base + x) 0 ≡ τ x
  pub top_is : top ≡ base + (scan_at t i).slots
  pub rank : calls + length (scan_at t i).known ≤ 15
  pub low_floor : floor ≤ calls * 128
  pub low_loops : low ≤ calls * 8
  pub low_base : base ≤ calls * 64

-- the callers, where so many calls are open
pub data Under (t : List ℕ) (s : Flat) : (calls floor low base : ℕ) → List Frame → Type 0 where
  bottom : {floor low base : ℕ} → Under t s 0 floor low base []
  above : {c floor low base floor₁ low₁ : ℕ} {f : Frame} {F : List Frame} (b base₁ : ℕ) → get_or s.backs c 0 ≡ b → get_or s.bases c 0 ≡ base₁
      → f.code ≡ drop b (code_of t) → On t s b 1 floor floor₁ low low₁ base₁ base c f.operands f.slots f.loops
      → Under t s c floor₁ low₁ base₁ F → Under t s (suc c) floor low base (f ∷ F)

pub data Stands (t : List ℕ) (s : Flat) : Machine → Type 0 where
  running : {values : List ℕ} {τ : Slots} {L : List Loop} {F : List Frame} {w : World} (floor low : ℕ)
      → On t s s.regs.at 0 s.regs.operands floor s.regs.loops low s.regs.base s.regs.top s.regs.calls values τ L
      → Under t s s.regs.calls floor low s.regs.base F
      → s.memory ≡ w.bytes → s.regs.steps ≡ w.steps → Stands t s (at (drop s.regs.at (code_of t)) values τ L F w)
  finished : {v : ℕ} {w : World} → s.regs.at ≡ records t → 1 ≤ s.regs.operands → s.regs.operands ≤ 2048 → get_or s.operands (s.regs.operands - 1) 0 ≡ v
      → s.memory ≡ w.bytes → s.regs.steps ≡ w.steps → Stands t s (halted v w)

-- ---- what lies below does not change
pub record Kept (s z : Flat) (floor low base calls : ℕ) : Type 0 where
  pub operands : (j : ℕ) → j < floor → get_or z.operands j 0 ≡ get_or s.operands j 0
  pub fors : (j : ℕ) → j < low → get_or z.fors j 0 ≡ get_or s.fors j 0
  pub passes : (j : ℕ) → j < low → get_or z.passes j 0 ≡ get_or s.passes j 0
  pub slots : (j : ℕ) → j < base → get_or z.slots j 0 ≡ get_or s.slots j 0
  pub backs : (j : ℕ) → j < calls → get_or z.backs j 0 ≡ get_or s.backs j 0
  pub bases : (j : ℕ) → j < calls → get_or z.bases j 0 ≡ get_or s.bases j 0

pub kept_less : {s z : Flat} {floor low base calls floor₁ low₁ base₁ calls₁ : ℕ} → floor₁ ≤ floor → low₁ ≤ low → base₁ ≤ base → calls₁ ≤ calls
    → Kept s z floor low base calls → Kept s z floor₁ low₁ base₁ calls₁
kept_less a b c d k =
    record {
      operands = λ j h. k.operands j (omega arith);
      fors = λ j h. k.fors j (omega arith);
      passes = λ j h. k.passes j (omega arith);
      slots = λ j h. k.slots j (omega arith);
      backs = λ j h. k.backs j (omega arith);
      bases = λ j h. k.bases j (omega arith);
    }

pub piled_same : {l k : List ℕ} {floor n : ℕ} {values : List ℕ} → ((j : ℕ) → j < n → get_or k j 0 ≡ get_or l j 0) → Piled l floor n values → Piled k floor n values
piled_same h bare = bare
piled_same h (pile {n} e p) = pile (h n (omega arith) ∙ e) (piled_same (λ j q. h j (omega arith)) p)

pub looped_height : {t fors passes : List ℕ} {known : List Known} {slots low d : ℕ} {D : Scope} {os : List Open} {L : List Loop}
    → Looped t fors passes known slots low d D os L → d ≡ low + length os
looped_height {low} outside = omega arith
looped_height (looped a b c e p) = let h = looped_height p in omega arith

pub looped_same : {t fors passes fors₁ passes₁ : List ℕ} {known : List Known} {slots low d : ℕ} {D : Scope} {os : List Open} {L : List Loop}
    → ((j : ℕ) → j < d → get_or fors₁ j 0 ≡ get_or fors j 0) → ((j : ℕ) → j < d → get_or passes₁ j 0 ≡ get_or passes j 0)
    → Looped t fors passes known slots low d D os L → Looped t fors₁ passes₁ known slots low d D os L
looped_same g h outside = outside
looped_same g h (looped {d} a b c e p) =
    looped (g d (omega arith) ∙ a) (h d (omega arith) ∙ b) c e (looped_same (λ j q. g j (omega arith)) (λ j q. h j (omega arith)) p)

-- more is visible in the innermost body
pub looped_wider : {t fors passes : List ℕ} {known : List Known} {slots low d : ℕ} {D E : Scope} {os : List Open} {L : List Loop}
    → Inside D E → Looped t fors passes known slots low d D os L → Looped t fors passes known slots low d E os L
looped_wider i outside = outside
looped_wider i (looped a b c e p) = looped a b c (inside_then e i) p
