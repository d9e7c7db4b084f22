-- A scan keeps its bounds over a record that has no fault. Assumes nothing.
use Prim.Native.Nat.{ℕ, suc, ◌-◌, ◌≤◌, ◌<◌}
use native.Mathlib.Omega.{arith}
use mathlib.Core.Path.{◌≡◌, refl, sym, ap, ◌∙◌}
use mathlib.Core.Logic.{◌⊎◌, inl, inr}
use mathlib.Core.Bool.{Bool, true, false, cond, ◌&&◌, false≢true}
use mathlib.Core.List.{List, [], ◌∷◌, ◌++◌}
use Rattle.std.proofs.lemmas.Bool.{and_parts}
use borrow.Author.Tests.{leb-true, ltb-true, eqb-true, eqb-false}
use lib.ListN.{length, length-append}
use lib.Dec.{leb, ltb, eqb}
use Rattle.word.specs.declared.Record.{Record}
use Rattle.tape.specs.Instruction.{Instruction, program, array, cfunc, lit, var, get, not, bin, call, def, set, put, for, end, ret, other, read}
use Rattle.tape.specs.Scan.{Due, a_program, an_array, a_function, a_body, nothing, Known, Open, Body, Scan, start, known_at, opening, leaves, states, opens, close_by, closes, in_body, headed, arrayed, enters, returns, next}
use Rattle.tape.specs.Faults.{due, more, takes, asks}
use Rattle.checker.specs.Ready.{Room, Within, fault_but}
use Rattle.tape.proofs.Cases.{read_program}
use Rattle.checker.proofs.Clear.{Met, passed, left}

pub start_within : Within start
unfolding start opening
start_within = record { functions = omega arith; known = omega arith; room = tt; slots = omega arith; operands = omega arith; loops = omega arith }

-- ---- one more function is due
is_program : Instruction → Bool
is_program (program p q) = true
is_program (array n) = false
is_program (cfunc p q) = false
is_program (lit v) = false
is_program (var x) = false
is_program (get a) = false
is_program not = false
is_program (bin o) = false
is_program (call f) = false
is_program (def x) = false
is_program (set x) = false
is_program (put a) = false
is_program (for x q r) = false
is_program end = false
is_program (ret x) = false
is_program other = false

first_only : (x : Record) → is_program (read x) ≡ false → x.kind ≡ 1 → ⊥
unfolding is_program
first_only x e k = false≢true (sym e ∙ ap is_program (read_program x k))

room_by : (d : Due) (kind k n : ℕ) → more d ≡ true → due d kind ≡ true → (kind ≡ 1 → ⊥) → Room d k n → k < n
unfolding more due
room_by a_program kind k n m e h r = absurd (h (eqb-true kind 1 e))
room_by an_array kind k n m e h r = r
room_by a_function kind k n m e h r = r
room_by a_body kind k n m e h r = r
room_by nothing kind k n m e h r = absurd (false≢true m)

pub room : (s : Scan) (x : Record) → Within s → Met s x → (x.kind ≡ 1 → ⊥) → length s.known < s.functions
room s x w m h = room_by s.due x.kind _ _ m.more m.due h w.room

either : (b : Bool) (d e : Due) (k n : ℕ) → Room d k n → Room e k n → Room (cond b d e) k n
either true d e k n h l = h
either false d e k n h l = l

-- ---- each record
leaves_within : (s : Scan) (n c : ℕ) → Within s → takes n s ≡ true → Within (in_body s (leaves s.body n c))
unfolding in_body leaves takes
leaves_within s n c w t =
    let most = leb-true _ _ ((and_parts (leb n s.body.operands) (leb (suc (s.body.operands - n)) 128) t).1) in
    record { functions = w.functions; known = w.known; room = w.room; slots = w.slots; operands = most; loops = w.loops }

closed_loops : (b : Body) (os : List Open) → length b.loops ≤ 8 → length os ≤ 8 → length (close_by b os).loops ≤ 8
unfolding close_by
closed_loops b [] h l = h
closed_loops b (o ∷ os) h l = omega arith

closed_operands : (b : Body) (os : List Open) → b.operands ≤ 128 → (close_by b os).operands ≤ 128
unfolding close_by
closed_operands b [] h = h
closed_operands b (o ∷ os) h = omega arith

returned_room : (b : Bool) (k n : ℕ) → eqb (suc k) n ≡ b → k < n → Room (cond b nothing a_function) (suc k) n
returned_room true k n e h = omega arith
returned_room false k n e h = let d = eqb-false (suc k) n e in omega arith

returns_within : (s : Scan) → Within s → length s.known < s.functions → Within (returns s)
unfolding returns
returns_within s w h =
    let one : Known = record { params = s.params; steps = suc s.body.steps; place = s.place } in
    let more : length (s.known ++ (one ∷ [])) ≡ suc (length s.known) = length-append s.known (one ∷ []) ∙ omega arith in
    record {
      functions = w.functions;
      known = rw more (omega arith);
      room = rw more (returned_room (eqb (suc (length s.known)) s.functions) _ _ refl h);
      slots = w.slots;
      operands = w.operands;
      loops = w.loops;
    }

module _ (s : Scan) (at : ℕ) (x : Record) (w : Within s) (m : Met s x) where
  -- what a record's instruction asks for, and that it is no PROGRAM
  range : (i : Instruction) → read x ≡ i → (asks s i).range ≡ true
  range i e = ap (λ (j : Instruction). (asks s j).range) (sym e) ∙ m.range

  loops : (i : Instruction) → read x ≡ i → (asks s i).loops ≡ true
  loops i e = ap (λ (j : Instruction). (asks s j).loops) (sym e) ∙ m.loops

  operands : (i : Instruction) → read x ≡ i → (asks s i).operands ≡ true
  operands i e = ap (λ (j : Instruction). (asks s j).operands) (sym e) ∙ m.operands

  later : (i : Instruction) → read x ≡ i → is_program i ≡ false → length s.known < s.functions
  later i e f = room s x w m (first_only x (ap is_program e ∙ f))

  by : (i : Instruction) → read x ≡ i → Within (next s at i)
  unfolding next asks is_program headed arrayed enters opening in_body states opens closes
  by (program p q) e =
      let functions = and_parts (leb 1 p) (leb p 16) (and_parts (leb 1 p && leb p 16) (leb q 8) (range (program p q) e)).0 in
      let low = leb-true 1 p functions.0 in
      let high = leb-true p 16 functions.1 in
      record { functions = high; known = omega arith; room = either (eqb q 0) a_function an_array 0 p low low; slots = omega arith; operands = omega arith; loops = omega arith }
  by (array n) e =
      let r = later (array n) e refl in
      record { functions = w.functions; known = w.known; room = either (ltb at s.arrays) an_array a_function _ _ r r; slots = w.slots; operands = w.operands; loops = w.loops }
  by (cfunc p q) e =
      let r = later (cfunc p q) e refl in
      let most = leb-true q 64 ((and_parts (leb p 8 && leb p q) (leb q 64) (range (cfunc p q) e)).1) in
      record { functions = w.functions; known = w.known; room = r; slots = most; operands = omega arith; loops = omega arith }
  by (lit v) e = leaves_within s 0 0 w (operands (lit v) e)
  by (var y) e = leaves_within s 0 1 w (operands (var y) e)
  by (get a) e = leaves_within s 1 1 w (operands (get a) e)
  by not e = leaves_within s 1 1 w (operands not e)
  by (bin o) e = leaves_within s 2 1 w (operands (bin o) e)
  by (call f) e = leaves_within s (known_at s f).params (suc (known_at s f).steps) w (operands (call f) e)
  by (def y) e = record { functions = w.functions; known = w.known; room = w.room; slots = w.slots; operands = omega arith; loops = w.loops }
  by (set y) e = record { functions = w.functions; known = w.known; room = w.room; slots = w.slots; operands = omega arith; loops = w.loops }
  by (put a) e = record { functions = w.functions; known = w.known; room = w.room; slots = w.slots; operands = omega arith; loops = w.loops }
  by (for y q r) e =
      let room = ltb-true (length s.body.loops) 8 (loops (for y q r) e) in
      record { functions = w.functions; known = w.known; room = w.room; slots = w.slots; operands = omega arith; loops = room }
  by end e =
      record {
        functions = w.functions;
        known = w.known;
        room = w.room;
        slots = w.slots;
        operands = closed_operands s.body s.body.loops w.operands;
        loops = closed_loops s.body s.body.loops w.loops w.loops;
      }
  by (ret y) e = returns_within s w (later (ret y) e refl)
  by other e = w

  pub next_within : Within (next s at (read x))
  next_within = by (read x) refl

-- the kinds that can be due
kinds_by : (d : Due) (k : ℕ) → more d ≡ true → due d k ≡ true → ((1 ≤ k) × (k ≤ 3)) ⊎ ((10 ≤ k) × (k ≤ 21))
unfolding more due
kinds_by a_program k m e = let h = eqb-true k 1 e in inl (omega arith)
kinds_by an_array k m e = let h = eqb-true k 2 e in inl (omega arith)
kinds_by a_function k m e = let h = eqb-true k 3 e in inl (omega arith)
kinds_by a_body k m e = let both = and_parts (leb 10 k) (leb k 21) e in inr (leb-true 10 k both.0, leb-true k 21 both.1)
kinds_by nothing k m e = absurd (false≢true m)

pub kinds_clear : (s : Scan) (x : Record) → fault_but s x ≡ 0 → ((1 ≤ x.kind) × (x.kind ≤ 3)) ⊎ ((10 ≤ x.kind) × (x.kind ≤ 21))
unfolding fault_but
kinds_clear s x e =
    let e₁ = left (more s.due) 25 _ e in
    kinds_by s.due x.kind (passed (more s.due) 25 _ e) (passed (due s.due x.kind) 21 _ e₁)

pub kinds : (s : Scan) (x : Record) → Met s x → ((1 ≤ x.kind) × (x.kind ≤ 3)) ⊎ ((10 ≤ x.kind) × (x.kind ≤ 21))
kinds s x m = kinds_by s.due x.kind m.more m.due
