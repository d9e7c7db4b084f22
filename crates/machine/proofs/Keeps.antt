-- Every record keeps the relation of flat state and machine; where it holds there is room for the record at hand; and the flat state tells whether it
-- counts. Assumes nothing.
use mathlib.Core.Path.{◌≡◌, refl, sym, ap, ◌∙◌}
use mathlib.Core.Bool.{Bool, true, false, not as negated, ◌&&◌}
use mathlib.Core.List.{List}
use Prim.Native.Nat.{ℕ, zero, suc, ◌+◌, ◌^◌, ◌≤◌, ◌<◌}
use native.Mathlib.Omega.{arith}
use borrow.Author.Tests.{leb-true, ltb-true}
use lib.Dec.{leb, ltb}
use lib.ListN.{length, get_or}
use Rattle.word.specs.Slots.{Slots, Scope}
use Rattle.word.specs.Records.{records, record_at, same}
use Rattle.tape.specs.Instruction.{Code, cfunc, call, end, read, write, code_of}
use Rattle.tape.specs.Scan.{Due, a_program, a_body, Known, Open, known_at}
use Rattle.tape.specs.Faults.{due, asks}
use Rattle.tape.specs.Entries.{Entry, entry_at}
use Rattle.tape.specs.Rules.{World, Loop, Frame, Machine, step, turn_for, turn_end, turn_loops, turn, is_free}
use Rattle.tape.proofs.Cases.{by_kind, cfunc_fields, for_fields}
use Rattle.tape.proofs.Reading.{code_from}
use Rattle.tape.proofs.Places.{scan_at, Passed}
use Rattle.tape.proofs.Positions.{placed_at, other_kind}
use Rattle.tape.proofs.Declared.{arrays_here}
use Rattle.std.proofs.lemmas.Bool.{and_parts}
use Rattle.tape.proofs.Steady.{Asks}
use Rattle.machine.specs.Flat.{Flat, sizes, pass_left, flat_by, free_by, Room, Callable, Looping, Stored, Ready}
use Rattle.machine.proofs.Piled.{piled_height}
use Rattle.machine.proofs.Relation.{Stands, running, finished, looped_height}
use Rattle.machine.proofs.Moving.{Sized, asked_at, fine}
use Rattle.machine.proofs.KeepsValues.{Running, After, room, exactly, slot_room, keeps_lit, keeps_var, keeps_get, keeps_not, keeps_bin, keeps_def, keeps_set, keeps_put}
use Rattle.machine.proofs.KeepsLoops.{keeps_for}
use Rattle.machine.proofs.KeepsEnds.{Innermost, innermost, left_is, keeps_end}
use Rattle.machine.proofs.Tables.{place_there}
use Rattle.machine.proofs.KeepsCalls.{Listed, keeps_call, keeps_ret}

-- whether a pass begins, as the rules say it
for_free : (z : Bool) → negated z ≡ is_free (turn_for z)
unfolding turn_for is_free
for_free true = refl
for_free false = refl

end_free_by : (z : Bool) (body : Code) → negated z ≡ is_free (turn_end z body)
unfolding turn_end is_free
end_free_by true body = refl
end_free_by false body = refl

module _ (t : List ℕ) (m : ℕ) (a : Passed t m) (funcs : List ℕ) (s : Flat) (b : Sized s) (table : Listed t m a funcs s b) where
  Δ : ℕ → Entry
  Δ = entry_at (code_of t)

  -- in a body stands no record of another class
  pub body_kind : {values : List ℕ} {τ : Slots} {L : List Loop} {F : List Frame} {w : World} → Running t s values τ L F w → 10 ≤ (record_at t s.regs.at).kind
  unfolding due
  body_kind r =
      let i = s.regs.at in
      let k = (record_at t i).kind in
      let c = a.faultless i r.on.on_tape in
      let q = sym (ap (λ (d : Due). due d k) r.on.in_body_lem) ∙ c.kind in
      leb-true 10 k (and_parts (leb 10 k) (leb k 21) q).0

  step_after : {values : List ℕ} {τ : Slots} {L : List Loop} {F : List Frame} {w : World} (r : Running t s values τ L F w)
      → After t m a funcs Δ s b (read (record_at t s.regs.at)) values τ L F w
  unfolding Δ
  step_after {values} {τ} {L} {F} {w} r =
      let x = record_at t s.regs.at in
      let k = body_kind r in
      let c = a.faultless s.regs.at r.on.on_tape in
      by_kind (λ i. read x ≡ i → same x (write i) ≡ true → After t m a funcs Δ s b i values τ L F w) x
      (record {
        on_program = λ e q u. absurd (omega arith);
        on_array = λ e q u. absurd (omega arith);
        on_cfunc = λ e q u. absurd (omega arith);
        on_lit = λ e q u. keeps_lit t m a funcs Δ s b values r _ q;
        on_var = λ e q u. keeps_var t m a funcs Δ s b values r _ q;
        on_get = λ e q u. keeps_get t m a funcs Δ s b values r _ q;
        on_not = λ e q u. keeps_not t m a funcs Δ s b values r q;
        on_bin = λ e q u. keeps_bin t m a funcs Δ s b values r _ q;
        on_call = λ e q u. keeps_call t m a funcs s b table values r _ q;
        on_def = λ e q u. keeps_def t m a funcs Δ s b values r _ q;
        on_set = λ e q u. keeps_set t m a funcs Δ s b values r _ q;
        on_put = λ e q u. keeps_put t m a funcs Δ s b values r _ q;
        on_for = λ e q u. keeps_for t m a funcs Δ s b values r _ _ _ q;
        on_end = λ e q u. keeps_end t m a funcs Δ s b values r q;
        on_ret = λ e q u. keeps_ret t m a funcs s b values r _ q;
        on_other = λ q u. absurd (let z = other_kind x u in omega arith);
      })
      refl c.unused

  pub keeps : {M : Machine} → Stands t s M → s.regs.at < records t → Stands t (flat_by t funcs (read (record_at t s.regs.at)) s) (step (sizes t) (entry_at (code_of t)) M)
  unfolding step Δ
  keeps (running floor low o u y z) h =
      rw (code_from t s.regs.at h) (step_after (record { floor = floor; low = low; on = o; under = u; bytes = y; steps = z }))
  keeps (finished e p q v y z) h = absurd (omega arith)

  -- ---- room for the record at hand
  module _ {values : List ℕ} {τ : Slots} {L : List Loop} {F : List Frame} {w : World} (r : Running t s values τ L F w) where
    bounds : (s.regs.operands ≤ 2048) × (s.regs.calls ≤ 15) × (s.regs.loops ≤ 128)
    bounds =
        let o = r.on in
        let f = fine t m a s.regs.at o.on_tape in
        let h = piled_height o.piled in
        let d = looped_height o.loops in
        let x = o.low_floor in
        let y = o.rank in
        let z = o.height in
        let u = o.low_loops in
        let v = f.heights in
        let g = f.deep in
        (omega arith, omega arith, omega arith)

    -- a body does not begin at record 0
    begun : 0 < s.regs.at
    begun = go s.regs.at refl
      where
        go : (n : ℕ) → s.regs.at ≡ n → 0 < s.regs.at
        go zero e =
            let p = placed_at t m a s.regs.at (let l = r.on.on_tape in omega arith) in
            let c : a_body ≡ a_program = sym r.on.in_body_lem ∙ p.zeroth e in
            absurd (let z : ◌≡◌ {A = ℕ} 0 1 = cc in omega arith)
        go (suc n) e = omega arith

    array_there : (n : ℕ) → ltb n (scan_at t s.regs.at).arrays ≡ true → n < length (sizes t)
    array_there n h = let e = arrays_here t m a s.regs.at begun (let l = r.on.on_tape in omega arith) in let l = ltb-true n _ h in omega arith

    slot_there : (x : ℕ) → ltb x (scan_at t s.regs.at).slots ≡ true → s.regs.base + x < 1024
    slot_there x h = slot_room t m a funcs Δ s b r x (ltb-true x _ h)

    roomy : Room (length (sizes t)) s.regs (read (record_at t s.regs.at))
    unfolding Room asks
    roomy =
        let x = record_at t s.regs.at in
        let S = scan_at t s.regs.at in
        let n = bounds in
        let c = a.faultless s.regs.at r.on.on_tape in
        let h = piled_height r.on.piled in
        by_kind (λ j. Asks S j → Room (length (sizes t)) s.regs j) x
        (record {
          on_program = λ e k. tt;
          on_array = λ e k. tt;
          on_cfunc = λ e k. tt;
          on_lit = λ e k. let q = room t m a funcs Δ s b r 0 k.operands in omega arith;
          on_var = λ e k. let q = room t m a funcs Δ s b r 0 k.operands in (omega arith, slot_there x.p k.range);
          on_get = λ e k. let q = room t m a funcs Δ s b r 1 k.operands in (omega arith, n.0, array_there x.p k.range);
          on_not = λ e k. let q = room t m a funcs Δ s b r 1 k.operands in (omega arith, n.0);
          on_bin = λ e k. let q = room t m a funcs Δ s b r 2 k.operands in (omega arith, n.0);
          on_call = λ e k. tt;
          on_def = λ e k. let q = exactly t m a funcs Δ s b r 1 k.operands in (omega arith, n.0, slot_there x.p k.range);
          on_set = λ e k. let q = exactly t m a funcs Δ s b r 1 k.operands in (omega arith, n.0, slot_there x.p k.range);
          on_put = λ e k. let q = exactly t m a funcs Δ s b r 2 k.operands in (omega arith, n.0, array_there x.p k.range);
          on_for = λ e k.
              let d = looped_height r.on.loops in
              let u = r.on.low_loops in
              let v = r.on.rank in
              let l = ltb-true (length S.body.loops) 8 k.loops in
              (omega arith, slot_there x.p (and_parts (ltb x.p S.slots) _ k.range).0);
          on_end = λ e k. tt;
          on_ret = λ e k.
              let q = exactly t m a funcs Δ s b r 0 k.operands in
              let f = r.on.low_floor in
              let v = r.on.rank in
              (omega arith, slot_there x.p k.range, omega arith);
          on_other = λ k. tt;
        })
        (record { range = c.range; loops = c.loops; operands = c.operands; slot = c.slot })

    callable : (f : ℕ) → read (record_at t s.regs.at) ≡ call f → Callable t funcs f s.regs
    unfolding asks
    callable f e =
        let o = r.on in
        let S = scan_at t s.regs.at in
        let k = asked_at t m a _ (call f) o.on_tape e in
        let lower = ltb-true f (length S.known) k.range in
        let p = (placed_at t m a s.regs.at (let l = o.on_tape in omega arith)).known f lower in
        let there = p.1 in
        let place = (known_at S f).place in
        let listed : get_or funcs f 0 ≡ place = table f ∙ place_there t m a there in
        let fields = cfunc_fields (record_at t place) there.is in
        let ask = asked_at t m a place (cfunc _ _) there.there there.is in
        let q = and_parts (leb (known_at S f).params 8 && leb (known_at S f).params p.0) (leb p.0 64) ask.range in
        let q₁ = leb-true p.0 64 q.1 in
        let q₂ = leb-true (known_at S f).params p.0 (and_parts (leb (known_at S f).params 8) _ q.0).1 in
        let enough = room t m a funcs Δ s b r (known_at S f).params k.operands in
        let h = piled_height o.piled in
        let y = o.rank in
        let tp = o.top_is in
        let fb = o.low_base in
        let sm = (fine t m a s.regs.at o.on_tape).small in
        let n = bounds in
        let p_is = fields.0 in
        let q_is = fields.1 in
        record {
          listed = omega arith;
          there = rw listed there.there;
          enough = rw (listed, p_is) (omega arith);
          full = n.0;
          fits = rw (listed, p_is) (omega arith);
          small = rw (listed, q_is) (omega arith);
          calls = omega arith;
        }

    pub looping : read (record_at t s.regs.at) ≡ end → Looping t s.fors s.regs
    unfolding asks
    looping e =
        let o = r.on in
        let k = asked_at t m a _ end o.on_tape e in
        let n = innermost o.loops (ltb-true 0 _ k.loops) in
        let p = n.opened in
        let ask = asked_at t m a n.f _ p.there p.is in
        let fields = for_fields (record_at t n.f) p.is in
        let low = ltb-true n.l.slot (scan_at t n.f).slots (and_parts (ltb n.l.slot (scan_at t n.f).slots) _ ask.range).0 in
        let lim = bounds in
        record {
          some = n.some;
          few = lim.2;
          there = rw n.for_is p.there;
          slot = rw (n.for_is, fields.0) (slot_room t m a funcs Δ s b r n.l.slot (omega (arith, p.slots_there)));
        }

    pub ready : (starts : List ℕ) (bytes : ℕ) → s.regs.steps < 2 ^ 63 → ((n : ℕ) → n < length (sizes t) → Stored t starts bytes n) → Ready t starts funcs s.regs s.fors bytes
    ready starts bytes l st =
        record { size = a.few; on_tape = r.on.on_tape; few = l; room = roomy; callable = callable; looping = looping; arrays = st }

    -- ---- whether the record at hand counts
    pub free_is : free_by (read (record_at t s.regs.at)) t s.fors s.passes s.regs.loops ≡ is_free (turn (read (record_at t s.regs.at)) L)
    unfolding free_by turn is_free asks turn_loops
    free_is =
        let x = record_at t s.regs.at in
        by_kind (λ j. read x ≡ j → free_by j t s.fors s.passes s.regs.loops ≡ is_free (turn j L)) x
        (record {
          on_program = λ e q. refl;
          on_array = λ e q. refl;
          on_cfunc = λ e q. refl;
          on_lit = λ e q. refl;
          on_var = λ e q. refl;
          on_get = λ e q. refl;
          on_not = λ e q. refl;
          on_bin = λ e q. refl;
          on_call = λ e q. refl;
          on_def = λ e q. refl;
          on_set = λ e q. refl;
          on_put = λ e q. refl;
          on_for = λ e q. for_free (ltb x.q x.r);
          on_end = λ e q. end_free (innermost r.on.loops (ltb-true 0 _ (asked_at t m a _ end r.on.on_tape q).loops));
          on_ret = λ e q. refl;
          on_other = λ q. refl;
        })
        refl
      where
        end_free : {D : Scope} {os : List Open} {low d : ℕ} {known : List Known} {slots : ℕ} → Innermost t s.fors s.passes known slots low d D os L
            → negated (pass_left t s.fors s.passes d) ≡ is_free (turn_loops L)
        end_free n = rw (left_is n, n.loops_are) (end_free_by (ltb (suc n.l.pass) n.l.to) n.l.body)
