-- The machine's state as the code keeps it: registers, and flat lists that they count into. This is an implementation, proved to stand for the
-- core rules; the contract of `run` does not speak of it. Assumes nothing: these are definitions.
use Rattle.std.specs.Prelude.{ℕ, zero, suc, ◌+◌, ◌-◌, ◌≤◌, ◌<◌, ◌^◌, ◌≡◌, List, [], ◌∷◌, Bool, true, false, not as negated, length, get_or, set as put_at, drop, map, ltb, eqb, Option, Some, None, Ok, Err}
use Rattle.word.specs.Value.{op, flip}
use Rattle.word.specs.Code.{op_of}
use Rattle.word.specs.Records.{records, record_at}
use Rattle.word.specs.Bytes.{base as start_of, total, fetch, store}
use Rattle.tape.specs.Instruction.{Instruction, Code, program, array, cfunc, lit, var, get, not, bin, call, def, set, put, for, end, ret, other, read, code_of}
use Rattle.tape.specs.Entries.{Declares, length_of, params_of, nothing, declares, lengths_of, entries_of, exposed}
use Rattle.tape.specs.Check.{check, Checked}
use Rattle.tape.specs.Rules.{past}
use Rattle.machine.specs.declared.registers.Registers.{Registers}
use Rattle.machine.specs.declared.stacks.Loop.{Loop}
use Rattle.machine.specs.declared.stacks.Frame.{Frame}
use Rattle.machine.specs.declared.stacks.Stacks.{Stacks}
use Rattle.machine.specs.declared.Ran.{Ran}
use Rattle.machine.specs.declared.Ran.TheVariants.{Done, Stopped}

-- `fors` and `passes` hold, for each open loop, the record of its FOR and its present number; `backs` and `bases`, for each open call, the record
-- to go back to and where the caller's slots begin
pub record Flat : Type 0 where
  pub regs : Registers
  pub fors : List ℕ
  pub passes : List ℕ
  pub backs : List ℕ
  pub bases : List ℕ
  pub operands : List ℕ
  pub slots : List ℕ
  pub memory : List ℕ

abbrev pub flat : Registers → List ℕ → List ℕ → List ℕ → List ℕ → List ℕ → List ℕ → List ℕ → Flat
flat g f p k b o s m = record { regs = g; fors = f; passes = p; backs = k; bases = b; operands = o; slots = s; memory = m }

-- what the arrays of loops and of frames hold, list by list
abbrev pub fors_of : List Loop → List ℕ
fors_of loops = map (λ (l : Loop). l.at) loops

abbrev pub passes_of : List Loop → List ℕ
passes_of loops = map (λ (l : Loop). l.pass) loops

abbrev pub backs_of : List Frame → List ℕ
backs_of frames = map (λ (f : Frame). f.back) frames

abbrev pub bases_of : List Frame → List ℕ
bases_of frames = map (λ (f : Frame). f.base) frames

-- how the registers, the lent arrays and the lent memory stand for one; and the arrays with other operands, and with other slots
abbrev pub flat_of : Registers → Stacks → List ℕ → Flat
flat_of g s m = flat g (fors_of s.loops) (passes_of s.loops) (backs_of s.frames) (bases_of s.frames) s.operands s.slots m

abbrev pub with_operands : Stacks → List ℕ → Stacks
with_operands s o = record { loops = s.loops; frames = s.frames; operands = o; slots = s.slots }

abbrev pub with_slots : Stacks → List ℕ → Stacks
with_slots s v = record { loops = s.loops; frames = s.frames; operands = s.operands; slots = v }

-- on to a record, with so many operands and open loops: for nothing, and as one counted step; and the same into another frame
unfoldable pub free : Registers → ℕ → ℕ → ℕ → Registers
free g at operands loops = record { at = at; operands = operands; loops = loops; base = g.base; top = g.top; calls = g.calls; steps = g.steps }

unfoldable pub count : Registers → ℕ → ℕ → ℕ → Registers
count g at operands loops = record { at = at; operands = operands; loops = loops; base = g.base; top = g.top; calls = g.calls; steps = g.steps + 1 }

unfoldable pub frame : Registers → ℕ → ℕ → ℕ → ℕ → ℕ → Registers
frame g at operands base top calls = record { at = at; operands = operands; loops = g.loops; base = base; top = top; calls = calls; steps = g.steps + 1 }

unfoldable pub pick : {A : Type 0} → Bool → A → A → A
pick true a b = a
pick false a b = b

-- the record after the END of the loop whose FOR is record i
unfoldable pub past_at : List ℕ → ℕ → ℕ
past_at t i = records t - length (past 0 (drop (i + 1) (code_of t)))

-- n operands from i on, copied to the slots from j on
unfoldable pub copied : ℕ → List ℕ → ℕ → List ℕ → ℕ → List ℕ
copied zero from i to j = to
copied (suc n) from i to j = copied n from (i + 1) (put_at to j (get_or from i 0)) (j + 1)

-- the two topmost operands
abbrev pub top : Flat → ℕ
top s = get_or s.operands (s.regs.operands - 1) 0

abbrev pub under : Flat → ℕ
under s = get_or s.operands (s.regs.operands - 2) 0

abbrev pub on_operands : Flat → Registers → List ℕ → Flat
on_operands s g o = flat g s.fors s.passes s.backs s.bases o s.slots s.memory

abbrev pub on_slots : Flat → Registers → List ℕ → Flat
on_slots s g v = flat g s.fors s.passes s.backs s.bases s.operands v s.memory

abbrev pub on_memory : Flat → Registers → List ℕ → Flat
on_memory s g m = flat g s.fors s.passes s.backs s.bases s.operands s.slots m

abbrev pub on_registers : Flat → Registers → Flat
on_registers s g = on_memory s g s.memory

-- the innermost open loop: the record of its FOR, its present number, and whether a pass is left after this one
abbrev pub loop_for : Flat → ℕ
loop_for s = get_or s.fors (s.regs.loops - 1) 0

abbrev pub loop_pass : Flat → ℕ
loop_pass s = get_or s.passes (s.regs.loops - 1) 0

unfoldable pub pass_left : List ℕ → List ℕ → List ℕ → ℕ → Bool
pass_left t fors passes loops = ltb (get_or passes (loops - 1) 0 + 1) (record_at t (get_or fors (loops - 1) 0)).r

-- the number of that next pass
unfoldable pub next_pass : List ℕ → List ℕ → List ℕ → ℕ → Option ℕ
next_pass t fors passes loops = pick (pass_left t fors passes loops) (Some (get_or passes (loops - 1) 0 + 1)) None

-- the lengths of a tape's arrays
abbrev pub sizes : List ℕ → List ℕ
sizes t = lengths_of (code_of t)

-- over a tape t, whose functions' CFUNCs are the records `funcs`: what an instruction does
module _ (t funcs : List ℕ) where
  unfoldable pub flat_by : Instruction → Flat → Flat
  flat_by (program p q) s = s
  flat_by (array n) s = s
  flat_by (cfunc p q) s = s
  flat_by (lit v) s = let g = s.regs in on_operands s (free g (g.at + 1) (g.operands + 1) g.loops) (put_at s.operands g.operands v)
  flat_by (var x) s =
      let g = s.regs in
      on_operands s (count g (g.at + 1) (g.operands + 1) g.loops) (put_at s.operands g.operands (get_or s.slots (g.base + x) 0))
  flat_by (get a) s =
      let g = s.regs in
      on_operands s (count g (g.at + 1) g.operands g.loops) (put_at s.operands (g.operands - 1) (fetch (sizes t) s.memory a (top s)))
  flat_by not s =
      let g = s.regs in on_operands s (count g (g.at + 1) g.operands g.loops) (put_at s.operands (g.operands - 1) (flip (top s)))
  flat_by (bin o) s =
      let g = s.regs in
      on_operands s (count g (g.at + 1) (g.operands - 1) g.loops) (put_at s.operands (g.operands - 2) (op (op_of o) (under s) (top s)))
  flat_by (call f) s =
      let g = s.regs in
      let c = get_or funcs f 0 in
      let p = (record_at t c).p in
      flat (frame g (c + 1) (g.operands - p) g.top (g.top + (record_at t c).q) (g.calls + 1)) s.fors s.passes
      (put_at s.backs g.calls (g.at + 1)) (put_at s.bases g.calls g.base) s.operands
      (copied p s.operands (g.operands - p) s.slots g.top) s.memory
  flat_by (def x) s = let g = s.regs in on_slots s (count g (g.at + 1) (g.operands - 1) g.loops) (put_at s.slots (g.base + x) (top s))
  flat_by (set x) s = let g = s.regs in on_slots s (count g (g.at + 1) (g.operands - 1) g.loops) (put_at s.slots (g.base + x) (top s))
  flat_by (put a) s = let g = s.regs in on_memory s (count g (g.at + 1) (g.operands - 2) g.loops) (store (sizes t) s.memory a (under s) (top s))
  flat_by (for x q r) s =
      let g = s.regs in
      pick (ltb q r)
      (flat (count g (g.at + 1) g.operands (g.loops + 1)) (put_at s.fors g.loops g.at) (put_at s.passes g.loops q) s.backs s.bases
      s.operands (put_at s.slots (g.base + x) q) s.memory)
      (on_registers s (free g (past_at t g.at) g.operands g.loops))
  flat_by end s =
      let g = s.regs in
      pick (pass_left t s.fors s.passes g.loops)
      (flat (count g (loop_for s + 1) g.operands g.loops) s.fors (put_at s.passes (g.loops - 1) (loop_pass s + 1)) s.backs s.bases
      s.operands (put_at s.slots (g.base + (record_at t (loop_for s)).p) (loop_pass s + 1)) s.memory)
      (on_registers s (free g (g.at + 1) g.operands (g.loops - 1)))
  flat_by (ret x) s =
      let g = s.regs in
      let o = put_at s.operands g.operands (get_or s.slots (g.base + x) 0) in
      pick (eqb g.calls 0)
      (on_operands s (count g (records t) (g.operands + 1) g.loops) o)
      (on_operands s (frame g (get_or s.backs (g.calls - 1) 0) (g.operands + 1) (get_or s.bases (g.calls - 1) 0) g.base (g.calls - 1)) o)
  flat_by other s = s

-- ---- the room that each instruction needs: the lists are 128 loops, 16 calls, 2048 operands and 1024 slots long
-- the next record and the next step can be counted; and there are n operands
abbrev pub Small : Registers → Type 0
Small g = (g.at < 2 ^ 32) × (g.steps < 2 ^ 63)

abbrev pub Holds : ℕ → Registers → Type 0
Holds n g = (n ≤ g.operands) × (g.operands ≤ 2048)

pub record Callable (t funcs : List ℕ) (f : ℕ) (g : Registers) : Type 0 where
  pub listed : f < 16
  pub there : get_or funcs f 0 < records t
  pub enough : (record_at t (get_or funcs f 0)).p ≤ g.operands
  pub full : g.operands ≤ 2048
  pub fits : g.top + (record_at t (get_or funcs f 0)).p ≤ 1024
  pub small : g.top + (record_at t (get_or funcs f 0)).q < 2 ^ 32
  pub calls : g.calls < 16

pub record Looping (t fors : List ℕ) (g : Registers) : Type 0 where
  pub some : 1 ≤ g.loops
  pub few : g.loops ≤ 128
  pub there : get_or fors (g.loops - 1) 0 < records t
  pub slot : g.base + (record_at t (get_or fors (g.loops - 1) 0)).p < 1024

-- of the instructions that leave calls and loops alone
module _ (arrays : ℕ) (g : Registers) where
  unfoldable pub Room : Instruction → Type 0
  Room (program p q) = Unit {0}
  Room (array n) = Unit {0}
  Room (cfunc p q) = Unit {0}
  Room (lit v) = g.operands < 2048
  Room (var x) = (g.operands < 2048) × (g.base + x < 1024)
  Room (get a) = (1 ≤ g.operands) × (g.operands ≤ 2048) × (a < arrays)
  Room not = (1 ≤ g.operands) × (g.operands ≤ 2048)
  Room (bin o) = (2 ≤ g.operands) × (g.operands ≤ 2048)
  Room (call f) = Unit {0}
  Room (def x) = (1 ≤ g.operands) × (g.operands ≤ 2048) × (g.base + x < 1024)
  Room (set x) = (1 ≤ g.operands) × (g.operands ≤ 2048) × (g.base + x < 1024)
  Room (put a) = (2 ≤ g.operands) × (g.operands ≤ 2048) × (a < arrays)
  Room (for x q r) = (g.loops < 128) × (g.base + x < 1024)
  Room end = Unit {0}
  Room (ret x) = (g.operands < 2048) × (g.base + x < 1024) × (g.calls ≤ 16)
  Room other = Unit {0}

-- array a is there, and its bytes lie within a memory of `bytes`; `starts` says where each begins
pub record Stored (t starts : List ℕ) (bytes a : ℕ) : Type 0 where
  pub few : a < 8
  pub recorded : a + 1 < records t
  pub length_is : (record_at t (a + 1)).p ≡ get_or (sizes t) a 0
  pub begins : get_or starts a 0 ≡ start_of (sizes t) a
  pub fits : start_of (sizes t) a + get_or (sizes t) a 0 ≤ bytes
  pub small : start_of (sizes t) a + get_or (sizes t) a 0 < 2 ^ 32

-- what `step` requires: the machine is on the tape, and there is room for the record at hand
pub record Ready (t starts funcs : List ℕ) (g : Registers) (fors : List ℕ) (bytes : ℕ) : Type 0 where
  pub size : records t ≤ 131072
  pub on_tape : g.at < records t
  pub few : g.steps < 2 ^ 63
  pub room : Room (length (sizes t)) g (read (record_at t g.at))
  pub callable : (f : ℕ) → read (record_at t g.at) ≡ call f → Callable t funcs f g
  pub looping : read (record_at t g.at) ≡ end → Looping t fors g
  pub arrays : (a : ℕ) → a < length (sizes t) → Stored t starts bytes a

-- ---- where each function begins, of code whose first record is the one numbered `at`
unfoldable pub with_place : Declares → ℕ → List ℕ → List ℕ
with_place (length_of n) at places = places
with_place (params_of p) at places = at ∷ places
with_place nothing at places = places

unfoldable pub places_of : ℕ → Code → List ℕ
places_of at [] = []
places_of at (x ∷ c) = with_place (declares x) at (places_of (suc at) c)

-- the tape was checked
unfoldable pub is_accepted : Checked → Bool
is_accepted (Ok steps) = true
is_accepted (Err r) = false

-- ---- whether the record at hand counts nothing
unfoldable pub free_by : Instruction → List ℕ → List ℕ → List ℕ → ℕ → Bool
free_by (program p q) t fors passes loops = false
free_by (array n) t fors passes loops = false
free_by (cfunc p q) t fors passes loops = false
free_by (lit v) t fors passes loops = true
free_by (var x) t fors passes loops = false
free_by (get a) t fors passes loops = false
free_by not t fors passes loops = false
free_by (bin o) t fors passes loops = false
free_by (call f) t fors passes loops = false
free_by (def x) t fors passes loops = false
free_by (set x) t fors passes loops = false
free_by (put a) t fors passes loops = false
free_by (for x q r) t fors passes loops = negated (ltb q r)
free_by end t fors passes loops = negated (pass_left t fors passes loops)
free_by (ret x) t fors passes loops = false
free_by other t fors passes loops = false

-- ---- whether the run goes on, with so many steps at most, and its answer where it does not: a further pass of a loop counts at its FOR
unfoldable pub goes_on : List ℕ → List ℕ → List ℕ → Registers → ℕ → Bool
goes_on t fors passes g most =
    pick (ltb g.at (records t)) (pick (ltb g.steps most) true (free_by (read (record_at t g.at)) t fors passes g.loops)) false

unfoldable pub answer_at : List ℕ → List ℕ → List ℕ → Registers → Ran
answer_at t fors operands g =
    pick (ltb g.at (records t)) (Stopped g.steps (pick (eqb (record_at t g.at).kind 20) (get_or fors (g.loops - 1) 0) g.at))
    (Done (get_or operands (g.operands - 1) 0) g.steps)

-- what `answer` requires, and what `execute` does: the tape was checked, its tables are `starts` and `funcs`, and `first` is where the exposed function
-- begins; so many arguments and bytes are given as it takes
pub record Ending (t fors : List ℕ) (g : Registers) : Type 0 where
  pub few : g.steps < 2 ^ 32
  pub size : records t ≤ 131072
  pub looping : g.at < records t → (record_at t g.at).kind ≡ 20 → Looping t fors g
  pub value : records t ≤ g.at → (1 ≤ g.operands) × (g.operands ≤ 2048)

pub record Entered (t starts funcs : List ℕ) (first arguments bytes : ℕ) : Type 0 where
  pub accepted : is_accepted (check t) ≡ true
  pub arrays : (a : ℕ) → a < length (sizes t) → get_or starts a 0 ≡ start_of (sizes t) a
  pub functions : (f : ℕ) → get_or funcs f 0 ≡ get_or (places_of 0 (code_of t)) f 0
  pub first_is : first ≡ get_or (places_of 0 (code_of t)) (length (entries_of (code_of t)) - 1) 0
  pub arguments_are : arguments ≡ (exposed (code_of t)).params
  pub bytes_are : bytes ≡ total (sizes t)
