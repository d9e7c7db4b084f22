-- The invariant of a run: the flat state stands for a machine from which the steps still allowed lead where the whole limit leads from the start.
-- Over an accepted tape. Assumes nothing.
use mathlib.Core.Path.{◌≡◌, refl, sym, ap, ◌∙◌}
use mathlib.Core.Bool.{Bool, true, false, false≢true}
use mathlib.Core.List.{List}
use Prim.Native.Nat.{ℕ, suc, ◌+◌, ◌-◌, ◌*◌, ◌≤◌, ◌<◌}
use native.Mathlib.Nat.{suc-mul}
use native.Mathlib.Omega.{arith}
use borrow.Author.Tests.{ltb-true, ltb-false, lt-ltb}
use lib.Dec.{ltb}
use lib.ListN.{length, get_or, drop, length-drop}
use Rattle.word.specs.Records.{records, record_at}
use Rattle.tape.specs.Instruction.{read, code_of}
use Rattle.tape.specs.Entries.{entry_at}
use Rattle.tape.specs.Rules.{Machine, step, quiet, left, stands}
use Rattle.tape.proofs.Reading.{code_from, code_length}
use Rattle.tape.proofs.Places.{Passed}
use Rattle.tape.proofs.Settling.{counter, quiet_forward, stands_quiet, stands_counting}
use Rattle.tape.proofs.Running.{Live, at_record, at_end, step_quiet, step_counted}
use Rattle.machine.specs.Flat.{Flat, sizes, pick, flat_by, free_by, goes_on, places_of}
use Rattle.machine.specs.declared.registers.Registers.{Registers}
use Rattle.machine.specs.Run.{after}
use Rattle.machine.proofs.Relation.{Stands, running, finished}
use Rattle.machine.proofs.Moving.{Sized}
use Rattle.machine.proofs.Keeps.{keeps, free_is}
use Rattle.machine.proofs.Lasting.{lasts, sized_after}

-- ---- what the flat state tells of its machine
pub counter_is : {t : List ℕ} {s : Flat} {M : Machine} → Stands t s M → counter M ≡ s.regs.steps
unfolding counter
counter_is (running floor low o u b k) = sym k
counter_is (finished e p q v b k) = sym k

alive : {t : List ℕ} {s : Flat} {M : Machine} → Stands t s M → Live M
alive (running floor low o u b k) = at_record
alive (finished e p q v b k) = at_end

pub left_is : {t : List ℕ} {s : Flat} {M : Machine} → Stands t s M → left M ≡ records t - s.regs.at
unfolding left
left_is {t} {s} (running floor low o u b k) = length-drop s.regs.at (code_of t) ∙ ap (λ (n : ℕ). n - s.regs.at) (code_length t)
left_is {t} {s} (finished e p q v b k) = omega arith

-- what is left to do: each record makes it less
unfoldable pub work_left : List ℕ → ℕ → ℕ → ℕ → ℕ
work_left t limit steps i = (limit - steps) * suc (records t) + (records t - i)

-- ---- whether the run goes on
pub goes : (t fors passes : List ℕ) (g : Registers) (limit : ℕ) → goes_on t fors passes g limit ≡ true
    → (g.at < records t) × ((free_by (read (record_at t g.at)) t fors passes g.loops ≡ false) → g.steps < limit)
unfolding goes_on pick
goes t fors passes g limit = by (ltb g.at (records t)) (ltb g.steps limit) refl refl
  where
    free : Bool
    free = free_by (read (record_at t g.at)) t fors passes g.loops

    by : (b d : Bool) → ltb g.at (records t) ≡ b → ltb g.steps limit ≡ d → pick b (pick d true free) false ≡ true
        → (g.at < records t) × ((free ≡ false) → g.steps < limit)
    by true true e q h = (ltb-true _ _ e, λ f. ltb-true _ _ q)
    by true false e q h = (ltb-true _ _ e, λ f. absurd (false≢true (sym f ∙ h)))
    by false d e q h = absurd (false≢true h)

pub rests : (t fors passes : List ℕ) (g : Registers) (limit : ℕ) → goes_on t fors passes g limit ≡ false → g.at < records t
    → (limit ≤ g.steps) × (free_by (read (record_at t g.at)) t fors passes g.loops ≡ false)
unfolding goes_on pick
rests t fors passes g limit h l = by (ltb g.steps limit) refl (rw (lt-ltb _ _ l) at h)
  where
    free : Bool
    free = free_by (read (record_at t g.at)) t fors passes g.loops

    by : (d : Bool) → ltb g.steps limit ≡ d → pick d true free ≡ false → (limit ≤ g.steps) × (free ≡ false)
    by true q h = absurd (false≢true (sym h))
    by false q h = (ltb-false _ _ q, h)

module _ (t : List ℕ) (m : ℕ) (a : Passed t m) (funcs arguments memory : List ℕ) (limit : ℕ) (table : (f : ℕ) → get_or funcs f 0 ≡ get_or (places_of 0 (code_of t)) f 0) where
  abbrev ahead : Machine → Machine
  ahead = step (sizes t) (entry_at (code_of t))

  pub record Along (s : Flat) : Type 0 where
    pub machine : Machine
    pub stands_for : Stands t s machine
    pub rest : stands (sizes t) (entry_at (code_of t)) (limit - s.regs.steps) machine ≡ after (code_of t) arguments memory limit
    pub few : s.regs.steps ≤ limit
    pub sized : Sized s
    pub bytes : length s.memory ≡ length memory

  -- ---- one record on
  module _ (s : Flat) (b : Sized s) (h : s.regs.at < records t) where
    pub quiet_is : {M : Machine} → Stands t s M → quiet M ≡ free_by (read (record_at t s.regs.at)) t s.fors s.passes s.regs.loops
    unfolding quiet
    quiet_is (running floor low o u y z) =
        rw (code_from t s.regs.at h) (sym (free_is t m a funcs s b table (record { floor = floor; low = low; on = o; under = u; bytes = y; steps = z })))
    quiet_is (finished e p q v y z) = absurd (omega arith)

    -- a record that counts counts one
    counted_one : {M : Machine} → Stands t s M → quiet M ≡ false → Live (ahead M) → counter (ahead M) ≡ suc (counter M)
    unfolding counter
    counted_one (running {values} {τ} {L} {F} {w} floor low o u y z) =
        rw (code_from t s.regs.at h) (step_counted (sizes t) (entry_at (code_of t)) (read (record_at t s.regs.at)) (drop (suc s.regs.at) (code_of t)) values τ L F w)
    counted_one (finished e p q v y z) = absurd (omega arith)

  module _ (s : Flat) (p : Along s) (g : goes_on t s.fors s.passes s.regs limit ≡ true) where
    abbrev pub z : Flat
    z = flat_by t funcs (read (record_at t s.regs.at)) s

    on_tape : s.regs.at < records t
    on_tape = (goes t s.fors s.passes s.regs limit g).0

    then : Stands t z (ahead p.machine)
    then = keeps t m a funcs s p.sized table p.stands_for on_tape

    -- what is further on, or has counted
    abbrev pub Next : Type 0
    Next = Along z × (work_left t limit z.regs.steps z.regs.at < work_left t limit s.regs.steps s.regs.at)

    along : stands (sizes t) (entry_at (code_of t)) (limit - z.regs.steps) (ahead p.machine) ≡ after (code_of t) arguments memory limit → z.regs.steps ≤ limit → Along z
    along e l =
        let k = lasts t funcs s (read (record_at t s.regs.at)) in
        record { machine = ahead p.machine; stands_for = then; rest = e; few = l; sized = sized_after p.sized k; bytes = k.memory ∙ p.bytes }

    quietly : quiet p.machine ≡ true → Next
    unfolding work_left
    quietly q =
        let e : z.regs.steps ≡ s.regs.steps = sym (counter_is then) ∙ step_quiet (sizes t) (entry_at (code_of t)) p.machine q ∙ counter_is p.stands_for in
        let f = quiet_forward (sizes t) (entry_at (code_of t)) p.machine q in
        let l = p.few in (
          along (rw e (sym (stands_quiet (sizes t) (entry_at (code_of t)) (limit - s.regs.steps) p.machine q) ∙ p.rest)) (omega arith),
          rw e (omega (arith, left_is then, left_is p.stands_for)),
        )

    counting : quiet p.machine ≡ false → Next
    unfolding work_left
    counting q =
        let e : z.regs.steps ≡ suc s.regs.steps = sym (counter_is then) ∙ counted_one s p.sized on_tape p.stands_for q (alive then) ∙ ap suc (counter_is p.stands_for) in
        let l : s.regs.steps < limit = (goes t s.fors s.passes s.regs limit g).1 (sym (quiet_is s p.sized on_tape p.stands_for) ∙ q) in
        let n : limit - s.regs.steps ≡ suc (limit - z.regs.steps) = omega arith in (
          along
              (sym (stands_counting (sizes t) (entry_at (code_of t)) (limit - z.regs.steps) p.machine q) ∙ ap (λ (k : ℕ). stands (sizes t) (entry_at (code_of t)) k p.machine) (sym n) ∙ p.rest)
              (omega arith),
          rw (n, suc-mul (limit - z.regs.steps) (suc (records t))) (omega arith),
        )

    pub along_next : Next
    along_next = by (quiet p.machine) refl
      where
        by : (d : Bool) → quiet p.machine ≡ d → Next
        by true q = quietly q
        by false q = counting q
