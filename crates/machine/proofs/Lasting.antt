-- What every record leaves as it is: the lengths of the flat lists and of the memory. Assumes nothing.
use mathlib.Core.Path.{◌≡◌, refl, ◌∙◌}
use mathlib.Core.Bool.{Bool, true, false}
use mathlib.Core.List.{List}
use Prim.Native.Nat.{ℕ, ◌+◌, ◌-◌}
use lib.Dec.{ltb, eqb}
use lib.ListN.{length, get_or, set as put_at, length-set}
use Rattle.word.proofs.Memory.{store_length}
use Rattle.word.specs.Records.{record_at}
use Rattle.word.specs.Value.{op, flip}
use Rattle.word.specs.Code.{op_of}
use Rattle.word.specs.Bytes.{fetch, store}
use Rattle.tape.specs.Instruction.{Instruction, program, array, cfunc, lit, var, get, not, bin, call, def, set, put, for, end, ret, other}
use Rattle.machine.specs.Flat.{Flat, pick, pass_left, top, under, loop_for, loop_pass, sizes, on_operands, on_slots, on_memory, on_registers, flat_by}
use Rattle.machine.specs.declared.registers.Registers.{Registers}
use Rattle.machine.proofs.Moving.{Sized}
use Rattle.machine.proofs.Handing.{copied_length}

-- as long as s's
pub record Lasts (s z : Flat) : Type 0 where
  pub fors : length z.fors ≡ length s.fors
  pub passes : length z.passes ≡ length s.passes
  pub backs : length z.backs ≡ length s.backs
  pub bases : length z.bases ≡ length s.bases
  pub operands : length z.operands ≡ length s.operands
  pub slots : length z.slots ≡ length s.slots
  pub memory : length z.memory ≡ length s.memory

same : (s : Flat) → Lasts s s
same s = record { fors = refl; passes = refl; backs = refl; bases = refl; operands = refl; slots = refl; memory = refl }

either : {s z y : Flat} (b : Bool) → Lasts s z → Lasts s y → Lasts s (pick b z y)
unfolding pick
either true p q = p
either false p q = q

-- something put into the operands, and into a slot
on_operands_lem : (s : Flat) (g : Registers) (j v : ℕ) → Lasts s (on_operands s g (put_at s.operands j v))
on_operands_lem s g j v =
    record { fors = refl; passes = refl; backs = refl; bases = refl; operands = length-set s.operands j v; slots = refl; memory = refl }

on_slots_lem : (s : Flat) (g : Registers) (j v : ℕ) → Lasts s (on_slots s g (put_at s.slots j v))
on_slots_lem s g j v =
    record { fors = refl; passes = refl; backs = refl; bases = refl; operands = refl; slots = length-set s.slots j v; memory = refl }

on_memory_lem : (s : Flat) (g : Registers) (lengths : List ℕ) (a i v : ℕ) → Lasts s (on_memory s g (store lengths s.memory a i v))
on_memory_lem s g lengths a i v =
    record { fors = refl; passes = refl; backs = refl; bases = refl; operands = refl; slots = refl; memory = store_length lengths s.memory a i v }

on_registers_lem : (s : Flat) (g : Registers) → Lasts s (on_registers s g)
on_registers_lem s g = record { fors = refl; passes = refl; backs = refl; bases = refl; operands = refl; slots = refl; memory = refl }

module _ (t funcs : List ℕ) (s : Flat) where
  pub lasts : (i : Instruction) → Lasts s (flat_by t funcs i s)
  unfolding flat_by
  lasts (program p q) = same s
  lasts (array n) = same s
  lasts (cfunc p q) = same s
  lasts (lit v) = on_operands_lem s _ s.regs.operands v
  lasts (var x) = on_operands_lem s _ s.regs.operands (get_or s.slots (s.regs.base + x) 0)
  lasts (get a) = on_operands_lem s _ (s.regs.operands - 1) (fetch (sizes t) s.memory a (top s))
  lasts not = on_operands_lem s _ (s.regs.operands - 1) (flip (top s))
  lasts (bin o) = on_operands_lem s _ (s.regs.operands - 2) (op (op_of o) (under s) (top s))
  lasts (call f) =
      let g = s.regs in
      let p = (record_at t (get_or funcs f 0)).p in
      record {
        fors = refl;
        passes = refl;
        backs = length-set s.backs g.calls (g.at + 1);
        bases = length-set s.bases g.calls g.base;
        operands = refl;
        slots = copied_length p s.operands (g.operands - p) s.slots g.top;
        memory = refl;
      }
  lasts (def x) = on_slots_lem s _ (s.regs.base + x) (top s)
  lasts (set x) = on_slots_lem s _ (s.regs.base + x) (top s)
  lasts (put a) = on_memory_lem s _ (sizes t) a (under s) (top s)
  lasts (for x q r) =
      let g = s.regs in
      either (ltb q r)
      (record {
        fors = length-set s.fors g.loops g.at;
        passes = length-set s.passes g.loops q;
        backs = refl;
        bases = refl;
        operands = refl;
        slots = length-set s.slots (g.base + x) q;
        memory = refl;
      })
      (on_registers_lem s _)
  lasts end =
      let g = s.regs in
      either (pass_left t s.fors s.passes g.loops)
      (record {
        fors = refl;
        passes = length-set s.passes (g.loops - 1) (loop_pass s + 1);
        backs = refl;
        bases = refl;
        operands = refl;
        slots = length-set s.slots (g.base + (record_at t (loop_for s)).p) (loop_pass s + 1);
        memory = refl;
      })
      (on_registers_lem s _)
  lasts (ret x) =
      let v = get_or s.slots (s.regs.base + x) 0 in
      either (eqb s.regs.calls 0) (on_operands_lem s _ s.regs.operands v) (on_operands_lem s _ s.regs.operands v)
  lasts other = same s

pub sized_after : {s z : Flat} → Sized s → Lasts s z → Sized z
sized_after b l =
    record {
      fors = l.fors ∙ b.fors;
      passes = l.passes ∙ b.passes;
      backs = l.backs ∙ b.backs;
      bases = l.bases ∙ b.bases;
      operands = l.operands ∙ b.operands;
      slots = l.slots ∙ b.slots;
    }
