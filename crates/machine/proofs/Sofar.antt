-- The invariant of `execute`, over what it requires. Assumes nothing.
use mathlib.Core.Path.{◌≡◌, ◌∙◌}
use mathlib.Core.Bool.{true, false}
use mathlib.Core.List.{List}
use Prim.Native.Nat.{ℕ, ◌<◌, ◌^◌}
use lib.ListN.{length}
use Rattle.std.specs.Prelude.{Ok}
use Rattle.word.specs.Records.{records, record_at}
use Rattle.tape.specs.Instruction.{code_of, read, end}
use Rattle.tape.proofs.Places.{Passed}
use Rattle.machine.specs.Run.{Result, after, result_of}
use Rattle.machine.specs.Flat.{Flat, flat_by, goes_on, answer_at, Ready, Looping, Ending, Entered}
use Rattle.machine.proofs.Tables.{checked, stored}
use Rattle.machine.proofs.Going.{Along, work_left, goes, along_next}
use Rattle.machine.proofs.Beginning.{Head, head, first_state, begun}
use Rattle.machine.proofs.Answering.{prepared, ends, ending, answered}

module _ (t starts funcs : List ℕ) (first : ℕ) (arguments memory : List ℕ) (limit : ℕ) where
  pub record Sofar (s : Flat) : Type 0 where
    pub entered : Entered t starts funcs first (length arguments) (length memory)
    pub along : Along t (checked t entered.accepted).0 (checked t entered.accepted).1 funcs arguments memory limit entered.functions s

module _ {t starts funcs : List ℕ} {first : ℕ} (arguments memory : List ℕ) (e : Entered t starts funcs first (length arguments) (length memory)) where
  pub entered_head : Head t (checked t e.accepted).0 (checked t e.accepted).1 starts funcs first arguments memory e
  entered_head = head t (checked t e.accepted).0 (checked t e.accepted).1 starts funcs first arguments memory e

  pub sofar_start : (limit : ℕ)
      → Sofar t starts funcs first arguments memory limit
      (first_state t (checked t e.accepted).0 (checked t e.accepted).1 starts funcs first arguments memory e)
  sofar_start limit = record { entered = e; along = begun t (checked t e.accepted).0 (checked t e.accepted).1 starts funcs first arguments memory e limit }

module _ {t starts funcs : List ℕ} {first : ℕ} {arguments memory : List ℕ} {limit : ℕ} {s : Flat} (p : Sofar t starts funcs first arguments memory limit s) where
  m : ℕ
  m = (checked t p.entered.accepted).0

  a : Passed t m
  unfolding m
  a = (checked t p.entered.accepted).1

  pub sofar_ends : s.regs.at < records t → read (record_at t s.regs.at) ≡ end → Looping t s.fors s.regs
  unfolding m a
  sofar_ends = ends t m a funcs arguments memory limit p.entered.functions s p.along

  pub sofar_ready : limit < 2 ^ 32 → goes_on t s.fors s.passes s.regs limit ≡ true → Ready t starts funcs s.regs s.fors (length s.memory)
  unfolding m a
  sofar_ready l g =
      prepared t m a funcs arguments memory limit p.entered.functions s p.along starts (length s.memory) l
      (stored t m a (length s.memory) (p.along.bytes ∙ p.entered.bytes_are) p.entered.arrays) (goes t s.fors s.passes s.regs limit g).0

  pub sofar_next : {z : Flat} → goes_on t s.fors s.passes s.regs limit ≡ true → z ≡ flat_by t funcs (read (record_at t s.regs.at)) s
      → Sofar t starts funcs first arguments memory limit z × (work_left t limit z.regs.steps z.regs.at < work_left t limit s.regs.steps s.regs.at)
  unfolding m a
  sofar_next g e =
      let n = along_next t m a funcs arguments memory limit p.entered.functions s p.along g in
      rw e (record { entered = p.entered; along = n.0 }, n.1)

  pub sofar_length : length s.memory ≡ length memory
  sofar_length = p.along.bytes

  pub sofar_ending : limit < 2 ^ 32 → Ending t s.fors s.regs
  unfolding m a
  sofar_ending = ending t m a funcs arguments memory limit p.entered.functions s p.along

  pub sofar_answer : goes_on t s.fors s.passes s.regs limit ≡ false
      → ◌≡◌ {A = Result} (record { answer = Ok (answer_at t s.fors s.operands s.regs); memory = s.memory }) (result_of (code_of t) (after (code_of t) arguments memory limit))
  unfolding m a
  sofar_answer = answered t m a funcs arguments memory limit p.entered.functions s p.along
