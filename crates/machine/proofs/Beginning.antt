-- The run begins inside the exposed function: the first flat state stands for the machine that the rules begin with. Assumes nothing.
use mathlib.Core.Path.{◌≡◌, refl, ap, ◌∙◌, subst}
use mathlib.Core.Bool.{◌&&◌}
use mathlib.Core.List.{List, []}
use Prim.Native.Nat.{ℕ, suc, ◌+◌, ◌-◌, ◌≤◌, ◌<◌}
use native.Mathlib.Numerals.{add-one}
use native.Mathlib.Nat.{zero-add}
use native.Mathlib.Omega.{arith}
use borrow.Author.Tests.{leb-true}
use lib.Dec.{leb}
use lib.ListN.{length, get_or, replicate}
use Rattle.word.specs.Slots.{fresh}
use Rattle.word.specs.Records.{records, record_at}
use Rattle.tape.specs.Instruction.{cfunc, code_of}
use Rattle.tape.specs.Faults.{asks}
use Rattle.tape.specs.Entries.{Entry, entries_of, entry_at}
use Rattle.tape.specs.Rules.{stands}
use Rattle.tape.proofs.Cases.{cfunc_fields}
use Rattle.tape.proofs.Places.{Passed}
use Rattle.std.proofs.lemmas.Bool.{and_parts}
use Rattle.tape.proofs.Declared.{exposed_there}
use Rattle.machine.specs.Run.{begin, after}
use Rattle.machine.specs.Flat.{Flat, flat, sizes, copied, places_of, Entered}
use Rattle.machine.specs.declared.registers.Registers.{Registers}
use Rattle.machine.proofs.Relation.{On, bottom, Stands}
use Rattle.machine.proofs.Moving.{asked_at}
use Rattle.machine.proofs.KeepsValues.{arrive}
use Rattle.machine.proofs.Tables.{place_there}
use Rattle.machine.proofs.Handing.{copied_length, copied_at}
use Rattle.machine.proofs.Opening.{entering}
use Rattle.machine.proofs.Going.{Along}

module _ (t : List ℕ) (m : ℕ) (a : Passed t m) (starts funcs : List ℕ) (first : ℕ) (arguments memory : List ℕ)
    (e : Entered t starts funcs first (length arguments) (length memory)) where
  -- what the check has shown of the exposed function's CFUNC
  pub record Head : Type 0 where
    pub there : first < records t
    pub slots_are : (record_at t first).q ≡ (exposed_there t m a).slots
    pub first_is : first ≡ (exposed_there t m a).place
    pub arguments_are : length arguments ≡ (exposed_there t m a).params
    pub few : length arguments ≤ 8
    pub small : (record_at t first).q ≤ 64

  pub head : Head
  unfolding asks
  head =
      let x = exposed_there t m a in
      let i : length (entries_of (code_of t)) - 1 ≡ x.index = omega (arith, x.index_is) in
      let f = e.first_is ∙ ap (λ (k : ℕ). get_or (places_of 0 (code_of t)) k 0) i ∙ place_there t m a x.there in
      let q = ap (λ (k : ℕ). (record_at t k).q) f ∙ (cfunc_fields (record_at t x.place) x.there.is).1 in
      let n = e.arguments_are ∙ ap (λ (y : Entry). y.params) x.entry in
      let k = asked_at t m a x.place (cfunc x.params x.slots) x.there.there x.there.is in
      let r = and_parts (leb x.params 8 && leb x.params x.slots) (leb x.slots 64) k.range in
      let few = leb-true x.params 8 (and_parts (leb x.params 8) (leb x.params x.slots) r.0).0 in
      let small = leb-true x.slots 64 r.1 in
      let l = x.there.there in
      record { there = omega arith; slots_are = q; first_is = f; arguments_are = n; few = omega arith; small = omega arith }

  first_registers : Registers
  first_registers = record { at = first + 1; operands = 0; loops = 0; base = 0; top = (record_at t first).q; calls = 0; steps = 0 }

  abbrev pub first_state : Flat
  first_state =
      flat (record { at = first + 1; operands = 0; loops = 0; base = 0; top = (record_at t first).q; calls = 0; steps = 0 }) (replicate 128 0) (replicate 128 0)
      (replicate 16 0) (replicate 16 0) (replicate 2048 0) (copied (length arguments) arguments 0 (replicate 1024 0) 0) memory

  begins : Stands t first_state (begin (code_of t) arguments memory)
  unfolding begin
  begins =
      let x = exposed_there t m a in
      let h = head in
      let n = h.arguments_are in
      let few = h.few in
      let top : 0 + x.slots ≡ (record_at t first).q = omega (arith, h.slots_are) in
      let handed : (k : ℕ) → k < x.params → get_or first_state.slots (0 + k) 0 ≡ get_or arguments k 0 =
      λ k l. copied_at (length arguments) arguments 0 (replicate 1024 0) 0 k (omega arith) (omega arith) ∙ ap (λ (j : ℕ). get_or arguments j 0) (zero-add k) in
      let on = entering t m a first_state 0 0 0 0 arguments x.there handed (let l = x.few in omega arith) (omega arith) (omega arith) (omega arith) in
      rw x.entry
      (arrive {z = first_state} 0 0 (add-one first ∙ ap suc h.first_is)
      (subst (λ (k : ℕ). On t first_state (suc x.place) 0 0 0 0 0 0 k 0 [] (fresh arguments) []) top on) bottom refl refl)

  pub begun : (limit : ℕ) → Along t m a funcs arguments memory limit e.functions first_state
  unfolding after
  begun limit =
      let z : limit - 0 ≡ limit = omega arith in
      record {
        machine = begin (code_of t) arguments memory;
        stands_for = begins;
        rest = ap (λ (n : ℕ). stands (sizes t) (entry_at (code_of t)) n (begin (code_of t) arguments memory)) z;
        few = omega arith;
        sized = record {
          fors = refl;
          passes = refl;
          backs = refl;
          bases = refl;
          operands = refl;
          slots = copied_length (length arguments) arguments 0 (replicate 1024 0) 0;
        };
        bytes = refl;
      }
