-- The core rules: how a tape runs, one record at a time, with 000's counter κ (01, "The core tape"). The code is the rest of the tape; operands,
-- slots and open loops are the present function's; a frame is a caller's. docs/RULES.md maps each rule of 000 to its clause here.
-- Assumes nothing: these are definitions.
use Rattle.std.specs.Prelude.{ℕ, zero, suc, ◌-◌, Bool, true, false, List, [], ◌∷◌, length, ltb}
use Rattle.word.specs.Value.{op, flip}
use Rattle.word.specs.Code.{op_of}
use Rattle.word.specs.Slots.{Slots, upd, fresh}
use Rattle.word.specs.Bytes.{fetch, store}
use Rattle.tape.specs.Instruction.{Instruction, Code, program, array, cfunc, lit, var, get, not, bin, call, def, set, put, for, end, ret, other}
use Rattle.tape.specs.Entries.{Entry}

-- the bytes, and the steps counted
pub record World : Type 0 where
  pub bytes : List ℕ
  pub steps : ℕ

-- an open loop: its slot, the number of the present pass, where it ends, and its body with all that follows
pub record Loop : Type 0 where
  pub slot : ℕ
  pub pass : ℕ
  pub to : ℕ
  pub body : Code

-- a caller: its code after the call, its operands, slots and loops
pub record Frame : Type 0 where
  pub code : Code
  pub operands : List ℕ
  pub slots : Slots
  pub loops : List Loop

-- the machine at a record; done, with the exposed function's value; or where no rule applies, which no accepted tape comes to
pub data Machine : Type 0 where
  at : Code → List ℕ → Slots → List Loop → List Frame → World → Machine
  halted : ℕ → World → Machine
  stuck : Machine

-- κ' = κ + 1
unfoldable pub tick : World → World
tick w = record { bytes = w.bytes; steps = suc w.steps }

unfoldable pub stored : List ℕ → ℕ → ℕ → ℕ → World → World
stored lengths a i v w = record { bytes = store lengths w.bytes a i v; steps = w.steps }

-- one operand, and two: the lower first
unfoldable pub one : List ℕ → (ℕ → List ℕ → Machine) → Machine
one [] g = stuck
one (v ∷ s) g = g v s

unfoldable pub two : List ℕ → (ℕ → ℕ → List ℕ → Machine) → Machine
two [] g = stuck
two (v ∷ []) g = stuck
two (v ∷ u ∷ s) g = g u v s

-- n operands, before those in vs
unfoldable pub grab : ℕ → List ℕ → List ℕ → (List ℕ → List ℕ → Machine) → Machine
grab zero s vs g = g vs s
grab (suc n) [] vs g = stuck
grab (suc n) (v ∷ s) vs g = grab n s (v ∷ vs) g

-- past the END of the loop that is open, with d more open in it
unfoldable pub past : ℕ → Code → Code
past d [] = []
past d (program p q ∷ c) = past d c
past d (array n ∷ c) = past d c
past d (cfunc p q ∷ c) = past d c
past d (lit v ∷ c) = past d c
past d (var x ∷ c) = past d c
past d (get a ∷ c) = past d c
past d (not ∷ c) = past d c
past d (bin o ∷ c) = past d c
past d (call f ∷ c) = past d c
past d (def x ∷ c) = past d c
past d (set x ∷ c) = past d c
past d (put a ∷ c) = past d c
past d (for x q r ∷ c) = past (suc d) c
past zero (end ∷ c) = c
past (suc d) (end ∷ c) = past d c
past d (ret x ∷ c) = past d c
past d (other ∷ c) = past d c

-- a pass of a loop begins, which is counted; or the loop is over, which is not, and c follows it
unfoldable pub pass : Bool → Loop → Code → List ℕ → Slots → List Loop → List Frame → World → Machine
pass true l c s τ L F w = at l.body s (upd τ l.slot l.pass) (l ∷ L) F (tick w)
pass false l c s τ L F w = at c s τ L F w

unfoldable pub again : Loop → Loop
again l = record { slot = l.slot; pass = suc l.pass; to = l.to; body = l.body }

-- END: the same loop from the next number on
unfoldable pub ending : List Loop → Code → List ℕ → Slots → List Frame → World → Machine
ending [] c s τ F w = stuck
ending (l ∷ L) c s τ F w = pass (ltb (suc l.pass) l.to) (again l) c s τ L F w

-- RET: the value goes to the caller's operands, or the run is done
unfoldable pub back : List Frame → ℕ → World → Machine
back [] v w = halted v (tick w)
back (f ∷ F) v w = at f.code (v ∷ f.operands) f.slots f.loops F (tick w)

-- over arrays with these lengths, where Δ has the functions
module _ (lengths : List ℕ) (Δ : ℕ → Entry) where
  -- the record at hand, c being what follows it
  unfoldable pub exec : Instruction → Code → List ℕ → Slots → List Loop → List Frame → World → Machine
  exec (program p q) c s τ L F w = stuck
  exec (array n) c s τ L F w = stuck
  exec (cfunc p q) c s τ L F w = stuck
  exec (lit v) c s τ L F w = at c (v ∷ s) τ L F w
  exec (var x) c s τ L F w = at c (τ x ∷ s) τ L F (tick w)
  exec (get a) c s τ L F w = one s (λ i s₁. at c (fetch lengths w.bytes a i ∷ s₁) τ L F (tick w))
  exec not c s τ L F w = one s (λ v s₁. at c (flip v ∷ s₁) τ L F (tick w))
  exec (bin o) c s τ L F w = two s (λ u v s₁. at c (op (op_of o) u v ∷ s₁) τ L F (tick w))
  exec (call f) c s τ L F w =
      grab (Δ f).params s [] (λ vs s₁. at (Δ f).code [] (fresh vs) [] (record { code = c; operands = s₁; slots = τ; loops = L } ∷ F) (tick w))
  exec (def x) c s τ L F w = one s (λ v s₁. at c s₁ (upd τ x v) L F (tick w))
  exec (set x) c s τ L F w = one s (λ v s₁. at c s₁ (upd τ x v) L F (tick w))
  exec (put a) c s τ L F w = two s (λ i v s₁. at c s₁ τ L F (tick (stored lengths a i v w)))
  exec (for x q r) c s τ L F w = pass (ltb q r) (record { slot = x; pass = q; to = r; body = c }) (past 0 c) s τ L F w
  exec end c s τ L F w = ending L c s τ F w
  exec (ret x) c s τ L F w = back F (τ x) w
  exec other c s τ L F w = stuck

  unfoldable pub step : Machine → Machine
  step (at [] s τ L F w) = stuck
  step (at (i ∷ c) s τ L F w) = exec i c s τ L F w
  step (halted v w) = halted v w
  step stuck = stuck

-- ---- where the machine stands after n counted steps
-- the record at hand: it counts nothing ("LIT, END and a FOR that is over"); it counts; or it is an END that begins a further pass of the loop
-- with this body, which counts as its FOR
pub data Turn : Type 0 where
  free counts : Turn
  renews : Code → Turn

unfoldable pub turn_for : Bool → Turn
turn_for true = counts
turn_for false = free

unfoldable pub turn_end : Bool → Code → Turn
turn_end true body = renews body
turn_end false body = free

unfoldable pub turn_loops : List Loop → Turn
turn_loops [] = counts
turn_loops (l ∷ L) = turn_end (ltb (suc l.pass) l.to) l.body

unfoldable pub turn : Instruction → List Loop → Turn
turn (program p q) L = counts
turn (array n) L = counts
turn (cfunc p q) L = counts
turn (lit v) L = free
turn (var x) L = counts
turn (get a) L = counts
turn not L = counts
turn (bin o) L = counts
turn (call f) L = counts
turn (def x) L = counts
turn (set x) L = counts
turn (put a) L = counts
turn (for x q r) L = turn_for (ltb q r)
turn end L = turn_loops L
turn (ret x) L = counts
turn other L = counts

unfoldable pub is_free : Turn → Bool
is_free free = true
is_free counts = false
is_free (renews body) = false

unfoldable pub quiet : Machine → Bool
quiet (at [] s τ L F w) = false
quiet (at (i ∷ c) s τ L F w) = is_free (turn i L)
quiet (halted v w) = false
quiet stuck = false

-- the records from the one at hand on
unfoldable pub left : Machine → ℕ
left (at c s τ L F w) = length c
left (halted v w) = 0
left stuck = 0

-- a record that counts nothing goes forward on the tape, so that no more of them stand in a row than records are left
module _ (lengths : List ℕ) (Δ : ℕ → Entry) where
  unfoldable pub settle : ℕ → Machine → Machine
  settle zero m = m
  settle (suc n) m = elim (quiet m) [ true ↦ settle n (step lengths Δ m) | false ↦ m ]

  abbrev pub settled : Machine → Machine
  settled m = settle (left m) m

  -- n counted steps further: at the next counted step, or done
  unfoldable pub stands : ℕ → Machine → Machine
  stands zero m = settled m
  stands (suc n) m = stands n (step lengths Δ (settled m))

-- the record of the counted step at hand, of a tape of `all` records: what is left of the tape tells it
unfoldable pub place_by : ℕ → Turn → Code → ℕ
place_by all free c = all - length c
place_by all counts c = all - length c
place_by all (renews body) c = all - suc (length body)

unfoldable pub place : ℕ → Code → List Loop → ℕ
place all [] L = all
place all (i ∷ c) L = place_by all (turn i L) (i ∷ c)
