-- FOR keeps the relation of flat state and machine. Assumes nothing.
use mathlib.Core.Path.{◌≡◌, refl, sym, ap, ◌∙◌, subst}
use mathlib.Core.Bool.{Bool, true, false}
use mathlib.Core.List.{List, [], ◌∷◌}
use Prim.Native.Nat.{ℕ, suc, ◌+◌, ◌-◌, ◌<◌}
use native.Mathlib.Numerals.{add-one}
use native.Mathlib.Omega.{arith}
use borrow.Author.Tests.{ltb-true}
use lib.Dec.{leb, ltb}
use lib.ListN.{length, set as put_at, drop}
use lib.Seq.{get_or-set_same}
use Rattle.word.specs.Slots.{Slots, upd, fixed}
use Rattle.word.specs.Records.{record_at}
use Rattle.word.proofs.Memory.{upd_other}
use Rattle.tape.specs.Instruction.{Instruction, Code, for, read, code_of}
use Rattle.tape.specs.Scan.{Scan, opens, in_body, next}
use Rattle.tape.specs.Faults.{more, readable, asks}
use Rattle.tape.specs.Entries.{Entry}
use Rattle.tape.specs.Rules.{World, Loop, Frame, at, tick, past, pass, exec}
use Rattle.tape.proofs.Places.{scan_at, Passed}
use Rattle.std.proofs.lemmas.Bool.{and_parts}
use Rattle.tape.proofs.Declared.{goes_on}
use Rattle.tape.proofs.Skipping.{past_loop}
use Rattle.machine.specs.Flat.{Flat, flat, free, count, pick, past_at, flat_by}
use Rattle.machine.proofs.Passing.{past_is}
use Rattle.machine.proofs.Relation.{inside_same, Opened, looped, Stands, looped_height, looped_same}
use Rattle.machine.proofs.Moving.{below_put, Sized, asked_at, scan_next, next_record, under_same}
use Rattle.machine.proofs.KeepsValues.{arrive, Here, After, exactly, slot_agree, slot_room}

module _ (t : List ℕ) (m : ℕ) (a : Passed t m) (funcs : List ℕ) (Δ : ℕ → Entry) (s : Flat) (b : Sized s) where
  abbrev Says : Instruction → Type 0
  Says x = read (record_at t s.regs.at) ≡ x

  -- ---- FOR
  -- its first pass
  first_pass : {τ : Slots} {L : List Loop} {F : List Frame} {w : World} → Here t m a funcs Δ s b [] τ L F w → (x q r : ℕ) → Says (for x q r) → q < r
      → Stands t
      (flat (count s.regs (s.regs.at + 1) s.regs.operands (s.regs.loops + 1)) (put_at s.fors s.regs.loops s.regs.at)
      (put_at s.passes s.regs.loops q) s.backs s.bases s.operands (put_at s.slots (s.regs.base + x) q) s.memory)
      (at (drop (suc s.regs.at) (code_of t)) [] (upd τ x q) (record { slot = x; pass = q; to = r; body = drop (suc s.regs.at) (code_of t) } ∷ L) F (tick w))
  unfolding count tick next opens in_body asks readable
  first_pass {τ} {L} r₀ x q r e h =
      let o = r₀.on in
      let i = s.regs.at in
      let S = scan_at t i in
      let d = s.regs.loops in
      let k = asked_at t m a i (for x q r) o.on_tape e in
      let f = scan_next t m a i (for x q r) e in
      let range = and_parts (ltb x S.slots) (leb q r) k.range in
      let room = slot_room t m a funcs Δ s b r₀ x (ltb-true x S.slots range.0) in
      let height = looped_height o.loops in
      let deep : d < 128 = let u = o.low_loops in let v = o.rank in let w = ltb-true (length S.body.loops) 8 k.loops in omega arith in
      let due = ap (λ (z : Scan). z.due) f ∙ o.in_body_lem in
      let known = ap (λ (z : Scan). z.known) f in
      let slots = ap (λ (z : Scan). z.slots) f in
      let scope = ap (λ (z : Scan). z.body.scope) f in
      let loops = ap (λ (z : Scan). z.body.loops) f in
      let l : Loop = record { slot = x; pass = q; to = r; body = drop (suc i) (code_of t) } in
      let opened : Opened t S.known S.slots i q (record { passes = r - q; scope = S.body.scope; steps = S.body.steps }) S.body.loops l =
      record {
        there = o.on_tape;
        is = e;
        body = refl;
        passing = h;
        due_there = o.in_body_lem;
        known_there = refl;
        slots_there = refl;
        loops_there = refl;
        is_open = refl;
      } in
      let inner =
      looped (get_or-set_same s.fors d i 0 (omega (arith, b.fors))) (get_or-set_same s.passes d q 0 (omega (arith, b.passes))) opened
      (inside_same (upd S.body.scope x fixed)) (looped_same (below_put s.fors d i) (below_put s.passes d q) o.loops) in
      arrive r₀.floor r₀.low (add-one i)
      (record {
        on_tape = next_record t m a i o.on_tape due;
        in_body_lem = due;
        piled = o.piled;
        height = omega (arith, ap (λ (z : Scan). z.body.operands) f);
        loops = rw (add-one d, known, slots, loops, scope) inner;
        agree = λ y v. slot_agree t m a funcs Δ s b r₀ x q (upd S.body.scope x fixed) room (λ u w z. rw (upd_other S.body.scope x fixed u z) at w) y (rw scope at v);
        top_is = o.top_is ∙ ap (λ (n : ℕ). s.regs.base + n) (sym slots);
        rank = rw known o.rank;
        low_floor = o.low_floor;
        low_loops = o.low_loops;
        low_base = o.low_base;
      })
      (under_same t m a
      (record {
        operands = λ j u. refl;
        fors = λ j u. below_put s.fors d i j (omega arith);
        passes = λ j u. below_put s.passes d q j (omega arith);
        slots = λ j u. below_put s.slots (s.regs.base + x) q j (omega arith);
        backs = λ j u. refl;
        bases = λ j u. refl;
      }) r₀.under)
      r₀.bytes (omega (arith, r₀.steps))

  -- no pass: past the loop
  no_pass : {τ : Slots} {L : List Loop} {F : List Frame} {w : World} → Here t m a funcs Δ s b [] τ L F w → (x q r : ℕ) → Says (for x q r)
      → Stands t (flat (free s.regs (past_at t s.regs.at) s.regs.operands s.regs.loops) s.fors s.passes s.backs s.bases s.operands s.slots s.memory)
      (at (past 0 (drop (suc s.regs.at) (code_of t))) [] τ L F w)
  unfolding free
  no_pass {τ} {L} {F} {w} r₀ x q r e =
      let o = r₀.on in
      let i = s.regs.at in
      let p = past_loop t m a i x q r o.on_tape o.in_body_lem e in
      let j = p.place in
      let same : j ≡ past_at t i = past_is t i j p.within (p.is ∙ ap (λ (n : ℕ). past 0 (drop n (code_of t))) (sym (add-one i))) in
      let on_it = goes_on t m a j p.within (ap more p.due_there ∙ (unfold more in refl)) in
      let z = flat (free s.regs (past_at t i) s.regs.operands s.regs.loops) s.fors s.passes s.backs s.bases s.operands s.slots s.memory in
      subst (λ (c : Code). Stands t z (at c [] τ L F w)) p.is
      (arrive {z = z} r₀.floor r₀.low (sym same)
      (record {
        on_tape = on_it;
        in_body_lem = p.due_there;
        piled = o.piled;
        height = omega (arith, p.operands_there);
        loops = rw (p.known_there, p.slots_there, p.loops_there, p.scope_there) o.loops;
        agree = λ y v. o.agree y (rw p.scope_there at v);
        top_is = o.top_is ∙ ap (λ (n : ℕ). s.regs.base + n) (sym p.slots_there);
        rank = rw p.known_there o.rank;
        low_floor = o.low_floor;
        low_loops = o.low_loops;
        low_base = o.low_base;
      })
      (under_same t m a
      (record {
        operands = λ j u. refl;
        fors = λ j u. refl;
        passes = λ j u. refl;
        slots = λ j u. refl;
        backs = λ j u. refl;
        bases = λ j u. refl;
      }) r₀.under)
      r₀.bytes r₀.steps)

  pub keeps_for : (values : List ℕ) {τ : Slots} {L : List Loop} {F : List Frame} {w : World} → Here t m a funcs Δ s b values τ L F w → (x q r : ℕ) → Says (for x q r)
      → After t m a funcs Δ s b (for x q r) values τ L F w
  unfolding asks
  keeps_for [] {τ} {L} {F} {w} r₀ x q r e = go (ltb q r) refl
    where
      go : (z : Bool) → ltb q r ≡ z → After t m a funcs Δ s b (for x q r) [] τ L F w
      go true h = unfold exec flat_by pick pass in rw h (first_pass r₀ x q r e (ltb-true q r h))
      go false h = unfold exec flat_by pick pass in rw h (no_pass r₀ x q r e)
  keeps_for (v ∷ values) r₀ x q r e =
      let k = exactly t m a funcs Δ s b r₀ 0 (asked_at t m a _ (for x q r) r₀.on.on_tape e).operands in absurd (omega arith)
