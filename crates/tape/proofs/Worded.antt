-- What a run keeps, on every tape whose numbers are words, from arguments that are words and a memory of bytes: operands, slots and values are words, the
-- memory is bytes, as many as it was, and each code at hand is some of the tape's. Assumes nothing.
use mathlib.Core.Path.{◌≡◌, refl, sym, ◌∙◌}
use mathlib.Core.Bool.{Bool, true, false}
use mathlib.Core.List.{List, [], ◌∷◌}
use Prim.Native.Nat.{ℕ, zero, suc, ◌-◌, ◌^◌, ◌<◌}
use native.Mathlib.Omega.{arith}
use borrow.Author.Tests.{ltb-true}
use lib.Dec.{ltb, eqb, lit<}
use lib.ListN.{length, get_or}
use Rattle.word.specs.Code.{op_of}
use Rattle.word.specs.Slots.{here, upd, Slots, fresh}
use Rattle.word.proofs.Laws.{word, flip_word, op_word}
use Rattle.word.proofs.Memory.{Words, no_word, a_word, Bytes, fetch_val, store_bytes, store_length}
use Rattle.tape.specs.Core.{CProgram}
use Rattle.tape.specs.Instruction.{Instruction, Code, program, array, cfunc, lit, var, get, not, bin, call, def, set, put, for, end, ret, other}
use Rattle.tape.specs.Tape.{instructions}
use Rattle.tape.specs.Entries.{Entry, lengths_of, entries_of, entry_at, exposed}
use Rattle.tape.specs.Rules.{World, Loop, Frame, Machine, at, halted, stuck, tick, stored, one, two, grab, pass, again, ending, back, exec, step, Turn, free, counts, renews, turn_for, turn_end, turn_loops, turn, quiet, left, settle, stands, place_by, place}
use Rattle.tape.proofs.Meaning.{cprogram}
use Rattle.tape.proofs.Sound.{Sound}
use Rattle.tape.proofs.Tails.{Tail, tail_length, tail_next, tail_after, past_tail, entry_tail, carries, carried, WordedCode, worded, tail_worded}
use Rattle.tape.proofs.Running.{Runs, here as stay, quietly, counting, opening, standing}
use Rattle.tape.proofs.Follows.{follows}

pub record WordedSlots (τ : Slots) : Type 0 where
  pub slot : (x : ℕ) → τ x < 2 ^ 32

-- n bytes
pub record Page (n : ℕ) (w : World) : Type 0 where
  pub bytes : Bytes w.bytes
  pub size : length w.bytes ≡ n

-- over the tape t: a loop's body follows its FOR
pub data WordedLoops (t : Code) : List Loop → Type 0 where
  no_loop : WordedLoops t []
  loop : {l : Loop} {L : List Loop} (first : ℕ) → Tail (for l.slot first l.to ∷ l.body) t → WordedLoops t L → WordedLoops t (l ∷ L)

pub data WordedFrames (t : Code) : List Frame → Type 0 where
  no_frame : WordedFrames t []
  frame : {f : Frame} {F : List Frame} → Tail f.code t → Words f.operands → WordedSlots f.slots → WordedLoops t f.loops
      → WordedFrames t F → WordedFrames t (f ∷ F)

pub data Worded (t : Code) (n : ℕ) : Machine → Type 0 where
  worded_at : {c : Code} {s : List ℕ} {τ : Slots} {L : List Loop} {F : List Frame} {w : World}
      → Tail c t → Words s → WordedSlots τ → WordedLoops t L → WordedFrames t F → Page n w → Worded t n (at c s τ L F w)
  worded_halted : {v : ℕ} {w : World} → v < 2 ^ 32 → Page n w → Worded t n (halted v w)
  worded_stuck : Worded t n stuck

-- ---- parts
upd_worded : {τ : Slots} → WordedSlots τ → (x v : ℕ) → v < 2 ^ 32 → WordedSlots (upd τ x v)
unfolding upd here
upd_worded {τ} h x v k = record { slot = λ y. by (eqb y x) y }
  where
    by : (b : Bool) (y : ℕ) → here b v (τ y) < 2 ^ 32
    by true y = k
    by false y = h.slot y

fresh_worded : {vs : List ℕ} → Words vs → WordedSlots (fresh vs)
fresh_worded h = record { slot = at_slot h }
  where
    at_slot : {vs : List ℕ} → Words vs → (x : ℕ) → get_or vs x 0 < 2 ^ 32
    at_slot no_word x = lit< tt
    at_slot (a_word k r) zero = k
    at_slot (a_word k r) (suc x) = at_slot r x

tick_page : {n : ℕ} {w : World} → Page n w → Page n (tick w)
unfolding tick
tick_page g = record { bytes = g.bytes; size = g.size }

stored_page : (lengths : List ℕ) {n : ℕ} {w : World} → Page n w → (a i v : ℕ) → Page n (stored lengths a i v w)
unfolding stored
stored_page lengths {w} g a i v = record { bytes = store_bytes lengths g.bytes a i v; size = store_length lengths w.bytes a i v ∙ g.size }

record_worded : {i : Instruction} {c : Code} → WordedCode (i ∷ c) → carries i < 2 ^ 32
record_worded (worded (carried h) r) = h

module _ (t : Code) (𝓣 : WordedCode t) (n : ℕ) where
  one_worded : {s : List ℕ} → Words s → (g : ℕ → List ℕ → Machine) → ((v : ℕ) (s₁ : List ℕ) → v < 2 ^ 32 → Words s₁ → Worded t n (g v s₁))
      → Worded t n (one s g)
  unfolding one
  one_worded no_word g k = worded_stuck
  one_worded (a_word h r) g k = k _ _ h r

  two_worded : {s : List ℕ} → Words s → (g : ℕ → ℕ → List ℕ → Machine)
      → ((u v : ℕ) (s₁ : List ℕ) → u < 2 ^ 32 → v < 2 ^ 32 → Words s₁ → Worded t n (g u v s₁)) → Worded t n (two s g)
  unfolding two
  two_worded no_word g k = worded_stuck
  two_worded (a_word h no_word) g k = worded_stuck
  two_worded (a_word h (a_word i r)) g k = k _ _ _ i h r

  grab_worded : (j : ℕ) {s vs : List ℕ} → Words s → Words vs → (g : List ℕ → List ℕ → Machine)
      → ((us s₁ : List ℕ) → Words us → Words s₁ → Worded t n (g us s₁)) → Worded t n (grab j s vs g)
  unfolding grab
  grab_worded zero r q g k = k _ _ q r
  grab_worded (suc j) no_word q g k = worded_stuck
  grab_worded (suc j) (a_word h r) q g k = grab_worded j r (a_word h q) g k

  -- a pass has a number below its loop's end, which is on the tape
  pass_worded : (b : Bool) (l : Loop) (first : ℕ) {c : Code} {s : List ℕ} {τ : Slots} {L : List Loop} {F : List Frame} {w : World}
      → b ≡ ltb l.pass l.to → Tail (for l.slot first l.to ∷ l.body) t
      → Tail c t → Words s → WordedSlots τ → WordedLoops t L → WordedFrames t F → Page n w → Worded t n (pass b l c s τ L F w)
  unfolding pass carries
  pass_worded true l first q k c r x y f g =
      let below = ltb-true l.pass l.to (sym q) in
      let end_word : l.to < 2 ^ 32 = record_worded (tail_worded k 𝓣) in
      worded_at (tail_next k) r (upd_worded x l.slot l.pass (omega arith)) (loop first k y) f (tick_page g)
  pass_worded false l first q k c r x y f g = worded_at c r x y f g

  ending_worded : {c : Code} {s : List ℕ} {τ : Slots} {L : List Loop} {F : List Frame} {w : World}
      → Tail c t → Words s → WordedSlots τ → WordedLoops t L → WordedFrames t F → Page n w → Worded t n (ending L c s τ F w)
  unfolding ending again
  ending_worded c r x no_loop f g = worded_stuck
  ending_worded c r x (loop {l} first k y) f g = pass_worded (ltb (suc l.pass) l.to) (again l) first refl k c r x y f g

  back_worded : {F : List Frame} {w : World} → WordedFrames t F → (v : ℕ) → v < 2 ^ 32 → Page n w → Worded t n (back F v w)
  unfolding back
  back_worded no_frame v h g = worded_halted h (tick_page g)
  back_worded (frame c r x y f) v h g = worded_at c (a_word h r) x y f (tick_page g)

  module _ (lengths : List ℕ) (Δ : ℕ → Entry) (𝓔 : (f : ℕ) → Tail (Δ f).code t) where
    exec_worded : {i : Instruction} {c : Code} {s : List ℕ} {τ : Slots} {L : List Loop} {F : List Frame} {w : World}
        → Tail (i ∷ c) t → Words s → WordedSlots τ → WordedLoops t L → WordedFrames t F → Page n w → Worded t n (exec lengths Δ i c s τ L F w)
    unfolding exec carries
    exec_worded {i = program p q} k r x y f g = worded_stuck
    exec_worded {i = array m} k r x y f g = worded_stuck
    exec_worded {i = cfunc p q} k r x y f g = worded_stuck
    exec_worded {i = lit v} k r x y f g = worded_at (tail_next k) (a_word (record_worded (tail_worded k 𝓣)) r) x y f g
    exec_worded {i = var z} k r x y f g = worded_at (tail_next k) (a_word (x.slot z) r) x y f (tick_page g)
    exec_worded {i = get a} k r x y f g =
        one_worded r _ (λ v s₁ h q. worded_at (tail_next k) (a_word (word (fetch_val lengths g.bytes a v)) q) x y f (tick_page g))
    exec_worded {i = not} k r x y f g = one_worded r _ (λ v s₁ h q. worded_at (tail_next k) (a_word (flip_word v) q) x y f (tick_page g))
    exec_worded {i = bin o} k r x y f g = two_worded r _ (λ u v s₁ j h q. worded_at (tail_next k) (a_word (op_word (op_of o) j h) q) x y f (tick_page g))
    exec_worded {i = call b} k r x y f g =
        grab_worded (Δ b).params r no_word _ (λ vs s₁ h q. worded_at (𝓔 b) no_word (fresh_worded h) no_loop (frame (tail_next k) q x y f) (tick_page g))
    exec_worded {i = def z} k r x y f g = one_worded r _ (λ v s₁ h q. worded_at (tail_next k) q (upd_worded x z v h) y f (tick_page g))
    exec_worded {i = set z} k r x y f g = one_worded r _ (λ v s₁ h q. worded_at (tail_next k) q (upd_worded x z v h) y f (tick_page g))
    exec_worded {i = put a} k r x y f g =
        two_worded r _ (λ u v s₁ j h q. worded_at (tail_next k) q x y f (tick_page (stored_page lengths g a u v)))
    exec_worded {i = for z p q} {c} k r x y f g =
        pass_worded (ltb p q) (record { slot = z; pass = p; to = q; body = c }) p refl k (tail_after (past_tail c 0) (tail_next k)) r x y f g
    exec_worded {i = end} k r x y f g = ending_worded (tail_next k) r x y f g
    exec_worded {i = ret z} k r x y f g = back_worded f _ (x.slot z) g
    exec_worded {i = other} k r x y f g = worded_stuck

    pub step_worded : {m : Machine} → Worded t n m → Worded t n (step lengths Δ m)
    unfolding step
    step_worded (worded_at {c = []} k r x y f g) = worded_stuck
    step_worded (worded_at {c = i ∷ c} k r x y f g) = exec_worded k r x y f g
    step_worded (worded_halted h g) = worded_halted h g
    step_worded worded_stuck = worded_stuck

    settle_worded : (k : ℕ) {m : Machine} → Worded t n m → Worded t n (settle lengths Δ k m)
    unfolding settle
    settle_worded zero h = h
    settle_worded (suc k) {m} h = by (quiet m) (settle_worded k (step_worded h))
      where
        by : (b : Bool) → Worded t n (settle lengths Δ k (step lengths Δ m)) → Worded t n (elim b [ true ↦ settle lengths Δ k (step lengths Δ m) | false ↦ m ])
        by true r = r
        by false r = h

    pub stands_worded : (k : ℕ) {m : Machine} → Worded t n m → Worded t n (stands lengths Δ k m)
    unfolding stands
    stands_worded zero {m} h = settle_worded (left m) h
    stands_worded (suc k) {m} h = stands_worded k (step_worded (settle_worded (left m) h))

    pub runs_worded : {m m₁ : Machine} {k : ℕ} → Runs lengths Δ m k m₁ → Worded t n m → Worded t n m₁
    runs_worded stay h = h
    runs_worded (quietly q p) h = runs_worded p (step_worded h)
    runs_worded (counting q p) h = runs_worded p (step_worded h)

-- ---- runs of a tape
starts_worded : (t : Code) {values : List ℕ} → Words values → (w : World) → Bytes w.bytes
    → Worded t (length w.bytes) (at (exposed t).code [] (fresh values) [] [] w)
starts_worded t v w b = worded_at (entry_tail t (length (entries_of t) - 1)) no_word (fresh_worded v) no_loop no_frame (record { bytes = b; size = refl })

-- after n counted steps
pub standing_worded : (t : Code) → WordedCode t → {values bytes : List ℕ} → Words values → Bytes bytes → (n : ℕ)
    → Worded t (length bytes) (standing t values bytes n)
standing_worded t h {bytes} v b n = stands_worded t h (length bytes) (lengths_of t) (entry_at t) (entry_tail t) n (starts_worded t v (opening bytes) b)

-- what a sound program means: a word, and as many bytes
pub record Answered (n v : ℕ) (w : World) : Type 0 where
  pub value : v < 2 ^ 32
  pub page : Page n w

pub program_worded : (p : CProgram) → Sound p → WordedCode (instructions p) → {values : List ℕ} → Words values → (w : World) → Bytes w.bytes
    → Answered (length w.bytes) (cprogram p values w).0 (cprogram p values w).1
program_worded p s h {values} v w b =
    let t = instructions p in
    answer (runs_worded t h (length w.bytes) p.arrays (entry_at t) (entry_tail t) (follows p s values w) (starts_worded t v w b))
  where
    answer : {t : Code} {n v : ℕ} {w : World} → Worded t n (halted v w) → Answered n v w
    answer (worded_halted h g) = record { value = h; page = g }

-- ---- the record of the next counted step is one of the tape's
-- a body that begins anew follows a record of the tape
data Turns (t : Code) : Turn → Type 0 where
  is_free : Turns t free
  is_counted : Turns t counts
  is_renewed : {i : Instruction} {body : Code} → Tail (i ∷ body) t → Turns t (renews body)

module _ (t : Code) where
  for_turns : (b : Bool) → Turns t (turn_for b)
  unfolding turn_for
  for_turns true = is_counted
  for_turns false = is_free

  end_turns : (b : Bool) {i : Instruction} {body : Code} → Tail (i ∷ body) t → Turns t (turn_end b body)
  unfolding turn_end
  end_turns true k = is_renewed k
  end_turns false k = is_free

  loops_turn : {L : List Loop} → WordedLoops t L → Turns t (turn_loops L)
  unfolding turn_loops
  loops_turn no_loop = is_counted
  loops_turn (loop {l} first k y) = end_turns (ltb (suc l.pass) l.to) k

  turns : (i : Instruction) {L : List Loop} → WordedLoops t L → Turns t (turn i L)
  unfolding turn
  turns (program p q) y = is_counted
  turns (array n) y = is_counted
  turns (cfunc p q) y = is_counted
  turns (lit v) y = is_free
  turns (var x) y = is_counted
  turns (get a) y = is_counted
  turns not y = is_counted
  turns (bin o) y = is_counted
  turns (call f) y = is_counted
  turns (def x) y = is_counted
  turns (set x) y = is_counted
  turns (put a) y = is_counted
  turns (for x q r) y = for_turns (ltb q r)
  turns end y = loops_turn y
  turns (ret x) y = is_counted
  turns other y = is_counted

  place_by_lem : {b : Turn} → Turns t b → {i : Instruction} {c : Code} → Tail (i ∷ c) t → place_by (length t) b (i ∷ c) < length t
  unfolding place_by
  place_by_lem is_free k = omega (arith, tail_length k)
  place_by_lem is_counted k = omega (arith, tail_length k)
  place_by_lem (is_renewed h) k = omega (arith, tail_length h)

pub place_worded : {t : Code} {n : ℕ} {i : Instruction} {c : Code} {s : List ℕ} {τ : Slots} {L : List Loop} {F : List Frame} {w : World}
    → Worded t n (at (i ∷ c) s τ L F w) → place (length t) (i ∷ c) L < length t
unfolding place
place_worded {t} {i} (worded_at k r x y f g) = place_by_lem t (turns t i y) k
