-- CALL and RET keep the relation of flat state and machine. Assumes nothing.
use mathlib.Core.Path.{◌≡◌, refl, sym, ap, ◌∙◌, subst}
use mathlib.Core.Bool.{◌&&◌}
use mathlib.Core.List.{List, [], ◌∷◌}
use Prim.Native.Nat.{ℕ, suc, ◌+◌, ◌-◌, ◌≤◌, ◌<◌}
use native.Mathlib.Numerals.{add-one}
use native.Mathlib.Omega.{arith}
use borrow.Author.Tests.{leb-true, eqb-true, ltb-true, ne_eqb}
use lib.Dec.{leb, eqb}
use lib.ListN.{length, get_or, set as put_at, drop, length-drop}
use lib.Seq.{get_or-set_same}
use Rattle.word.specs.Slots.{Slots, fresh}
use Rattle.word.specs.Records.{records, record_at}
use Rattle.tape.specs.Instruction.{Instruction, Code, cfunc, call, ret, read, code_of}
use Rattle.tape.specs.Scan.{Scan, known_at, opening, leaves, enters, in_body, next}
use Rattle.tape.specs.Faults.{asks}
use Rattle.tape.specs.Entries.{Entry, entry_at}
use Rattle.tape.specs.Rules.{World, Loop, Frame, at, halted, tick, grab, back, exec}
use Rattle.tape.proofs.Cases.{cfunc_fields}
use Rattle.tape.proofs.Places.{scan_at, Passed}
use Rattle.tape.proofs.Entered.{StandsAt}
use Rattle.tape.proofs.Positions.{placed_at, entry_there}
use Rattle.std.proofs.lemmas.Bool.{and_parts}
use Rattle.machine.specs.Flat.{Flat, flat, count, frame, pick, copied, places_of, flat_by}
use Rattle.machine.proofs.Piled.{Piled, piled_height, piled_on}
use Rattle.machine.proofs.Relation.{Looped, On, Under, bottom, above, Stands, finished, Kept, looped_height}
use Rattle.machine.proofs.Moving.{below_put, Sized, asked_at, scan_next, next_record, under_same, fine}
use Rattle.machine.proofs.KeepsValues.{arrive, Here, After, room, exactly}
use Rattle.machine.proofs.Opening.{entering}
use Rattle.machine.proofs.Tables.{place_there}
use Rattle.machine.proofs.Handing.{handed, grab_handed, handed_at, piled_drop, copied_below, copied_at}

module _ (t : List ℕ) (m : ℕ) (a : Passed t m) (funcs : List ℕ) (s : Flat) (b : Sized s) where
  abbrev Δ : ℕ → Entry
  Δ = entry_at (code_of t)

  abbrev Says : Instruction → Type 0
  Says x = read (record_at t s.regs.at) ≡ x

  -- ---- CALL
  module _ (values : List ℕ) {τ : Slots} {L : List Loop} {F : List Frame} {w : World} (r₀ : Here t m a funcs Δ s b values τ L F w) (f place params slots : ℕ)
      (e : Says (call f)) (there : StandsAt t f place params slots) (listed : get_or funcs f 0 ≡ place) (enough : params ≤ length values)
      (lower : f < length (scan_at t s.regs.at).known) (params_are : (known_at (scan_at t s.regs.at) f).params ≡ params) where
    S : Scan
    S = scan_at t s.regs.at

    n : ℕ
    n = s.regs.operands

    slots₁ : List ℕ
    slots₁ = copied params s.operands (n - params) s.slots s.regs.top

    z : Flat
    z = flat (frame s.regs (place + 1) (n - params) s.regs.top (s.regs.top + slots) (s.regs.calls + 1)) s.fors s.passes
        (put_at s.backs s.regs.calls (s.regs.at + 1)) (put_at s.bases s.regs.calls s.regs.base) s.operands slots₁ s.memory

    caller : Frame
    caller = record { code = drop (suc s.regs.at) (code_of t); operands = drop params values; slots = τ; loops = L }

    entered : Stands t z (at (drop (suc place) (code_of t)) [] (fresh (handed params values [])) [] (caller ∷ F) (tick w))
    unfolding z frame tick caller slots₁ n S next enters opening leaves in_body asks
    entered =
        let o = r₀.on in
        let i = s.regs.at in
        let k = asked_at t m a place (cfunc params slots) there.there there.is in
        let c = scan_next t m a i (call f) e in
        let due = ap (λ (y : Scan). y.due) c ∙ o.in_body_lem in
        let h = piled_height o.piled in
        let d = looped_height o.loops in
        let fl = o.low_floor in
        let fb = o.low_base in
        let fo = o.low_loops in
        let rk = o.rank in
        let tp = o.top_is in
        let fine_here = fine t m a i o.on_tape in
        let small = fine_here.small in
        let deep = fine_here.deep in
        let high = fine_here.heights in
        let tall = o.height in
        let q_small = and_parts (leb params 8 && leb params slots) (leb slots 64) k.range in
        let p_small = leb-true params slots (and_parts (leb params 8) (leb params slots) q_small.0).1 in
        let s_small = leb-true slots 64 q_small.1 in
        let room : s.regs.top + params ≤ 1024 = omega arith in
        let few : s.regs.calls < 16 = omega arith in
        let scope = ap (λ (y : Scan). y.body.scope) c in
        let handing : (x : ℕ) → x < params → get_or slots₁ (s.regs.top + x) 0 ≡ get_or (handed params values []) x 0 =
        λ x l. copied_at params s.operands (n - params) s.slots s.regs.top x l (omega (arith, b.slots))
        ∙ sym (handed_at params [] o.piled enough x l) in
        let below : (j : ℕ) → j < s.regs.top → get_or slots₁ j 0 ≡ get_or s.slots j 0 = copied_below params s.operands (n - params) s.slots s.regs.top in
        let callee = entering t m a z (n - params) s.regs.loops s.regs.top (s.regs.calls + 1) (handed params values []) there handing (omega arith)
        (omega arith) (omega arith) (omega arith) in
        let waiting : On t z (suc i) 1 (n - params) r₀.floor s.regs.loops r₀.low s.regs.base s.regs.top s.regs.calls (drop params values) τ L =
        record {
          on_tape = next_record t m a i o.on_tape due;
          in_body_lem = due;
          piled = piled_drop params o.piled enough;
          height = omega (arith, ap (λ (y : Scan). y.body.operands) c, length-drop params values);
          loops = rw (ap (λ (y : Scan). y.known) c, ap (λ (y : Scan). y.slots) c, ap (λ (y : Scan). y.body.loops) c, scope) o.loops;
          agree = λ x v.
              let u = rw scope at v in
              below (s.regs.base + x) (let l = fine_here.visible x u in omega arith) ∙ o.agree x u;
          top_is = tp ∙ ap (λ (y : ℕ). s.regs.base + y) (sym (ap (λ (y : Scan). y.slots) c));
          rank = omega (arith, ap (λ (y : Scan). length y.known) c);
          low_floor = fl;
          low_loops = fo;
          low_base = fb;
        } in
        let kept : Kept s z r₀.floor r₀.low s.regs.base s.regs.calls =
        record {
          operands = λ j l. refl;
          fors = λ j l. refl;
          passes = λ j l. refl;
          slots = λ j l. below j (omega arith);
          backs = below_put s.backs s.regs.calls (i + 1);
          bases = below_put s.bases s.regs.calls s.regs.base;
        } in
        arrive {z = z} (n - params) s.regs.loops (add-one place) callee
        (subst (λ (k : ℕ). Under t z k (n - params) s.regs.loops s.regs.top (caller ∷ F)) (sym (add-one s.regs.calls))
        (above (suc i) s.regs.base (get_or-set_same s.backs s.regs.calls (i + 1) 0 (omega (arith, b.backs)) ∙ add-one i)
        (get_or-set_same s.bases s.regs.calls s.regs.base 0 (omega (arith, b.bases))) refl waiting (under_same t m a kept r₀.under)))
        r₀.bytes (omega (arith, r₀.steps))

  -- the table of functions holds where each one begins
  abbrev pub Listed : Type 0
  Listed = (f : ℕ) → get_or funcs f 0 ≡ get_or (places_of 0 (code_of t)) f 0

  pub keeps_call : Listed → (values : List ℕ) {τ : Slots} {L : List Loop} {F : List Frame} {w : World} → Here t m a funcs Δ s b values τ L F w → (f : ℕ) → Says (call f)
      → After t m a funcs Δ s b (call f) values τ L F w
  unfolding exec flat_by asks z slots₁ caller n
  keeps_call table values {τ} {L} {F} {w} r₀ f e =
      let o = r₀.on in
      let S = scan_at t s.regs.at in
      let k = asked_at t m a _ (call f) o.on_tape e in
      let lower = ltb-true f (length S.known) k.range in
      let p = (placed_at t m a s.regs.at (let l = o.on_tape in omega arith)).known f lower in
      let q = (known_at S f).params in
      let there = p.1 in
      let fields = cfunc_fields (record_at t (known_at S f).place) there.is in
      let enough = (room t m a funcs Δ s b r₀ q k.operands).1 in
      let listed = table f ∙ place_there t m a there in
      let entry = entry_there t m a there in
      let went = ap (λ (x : Entry). grab x.params values []
      (λ vs rest. at x.code [] (fresh vs) [] (record { code = drop (suc s.regs.at) (code_of t); operands = rest; slots = τ; loops = L } ∷ F) (tick w))) entry
      ∙ grab_handed q values [] _ enough in
      rw (listed, fields.0, fields.1, went) (entered values r₀ f (known_at S f).place q p.0 e there listed enough lower refl)

  -- ---- RET
  -- off the tape, with the value on top of the operands
  module _ {w : World} (v : ℕ) (bytes : s.memory ≡ w.bytes) (steps : s.regs.steps ≡ w.steps) (room : s.regs.operands < 2048) where
    off : Flat
    off = flat (count s.regs (records t) (s.regs.operands + 1) s.regs.loops) s.fors s.passes s.backs s.bases (put_at s.operands s.regs.operands v) s.slots s.memory

    off_tape : Stands t off (halted v (tick w))
    unfolding off tick count
    off_tape =
        let e : s.regs.operands + 1 - 1 ≡ s.regs.operands = omega arith in
        finished refl (omega arith) (omega arith)
        (ap (λ (k : ℕ). get_or (put_at s.operands s.regs.operands v) k 0) e ∙ get_or-set_same s.operands s.regs.operands v 0 (omega (arith, b.operands))) bytes (omega (arith, steps))

    -- back in the caller, at record bk
    in_caller : ℕ → ℕ → ℕ → Flat
    in_caller bk base₁ c =
        flat (frame s.regs bk (s.regs.operands + 1) base₁ s.regs.base c) s.fors s.passes s.backs s.bases (put_at s.operands s.regs.operands v) s.slots s.memory

    back_in : {floor low floor₁ low₁ base₁ c bk : ℕ} (f : Frame) {F : List Frame} → On t s bk 1 floor floor₁ low low₁ base₁ s.regs.base c f.operands f.slots f.loops
        → Under t s c floor₁ low₁ base₁ F → s.regs.operands ≡ floor → s.regs.loops ≡ low
        → Stands t (in_caller bk base₁ c) (at (drop bk (code_of t)) (v ∷ f.operands) f.slots f.loops F (tick w))
    unfolding in_caller tick frame
    back_in {floor} {low} {floor₁} {low₁} {base₁} {c} {bk} f o u x y =
        let n = s.regs.operands in
        let h = piled_height o.piled in
        let pile = piled_on v (omega (arith, b.operands)) (subst (λ (k : ℕ). Piled s.operands floor₁ k f.operands) (sym x) o.piled) in
        arrive {z = in_caller bk base₁ c} floor₁ low₁ refl
        (record {
          on_tape = o.on_tape;
          in_body_lem = o.in_body_lem;
          piled = subst (λ (k : ℕ). Piled (put_at s.operands n v) floor₁ k (v ∷ f.operands)) (sym (add-one n)) pile;
          height = let q = o.height in omega arith;
          loops = subst
              (λ (k : ℕ). Looped t s.fors s.passes (scan_at t bk).known (scan_at t bk).slots low₁ k (scan_at t bk).body.scope (scan_at t bk).body.loops f.loops) (sym y) o.loops;
          agree = o.agree;
          top_is = o.top_is;
          rank = o.rank;
          low_floor = o.low_floor;
          low_loops = o.low_loops;
          low_base = o.low_base;
        })
        (under_same t m a
        (record {
          operands = λ j l. below_put s.operands n v j (omega arith);
          fors = λ j l. refl;
          passes = λ j l. refl;
          slots = λ j l. refl;
          backs = λ j l. refl;
          bases = λ j l. refl;
        }) u)
        bytes (omega (arith, steps))

    both_ways : {F : List Frame} {floor low c base : ℕ} → Under t s c floor low base F → base ≡ s.regs.base → s.regs.operands ≡ floor → s.regs.loops ≡ low
        → Stands t (pick (eqb c 0) off (in_caller (get_or s.backs (c - 1) 0) (get_or s.bases (c - 1) 0) (c - 1))) (back F v w)
    unfolding back pick
    both_ways bottom z x y = off_tape
    both_ways (above {c = c} {floor = floor} {low = low} {floor₁ = floor₁} {low₁ = low₁} {f = f} {F = F} bk base₁ d₁ d₂ d₃ o u) z x y =
        let e : suc c - 1 ≡ c = omega arith in
        let on = subst (λ (k : ℕ). On t s bk 1 floor floor₁ low low₁ base₁ k c f.operands f.slots f.loops) z o in
        rw (ne_eqb (suc c) 0 (λ q. omega arith), e, d₁, d₂)
        (subst (λ (k : Code). Stands t (in_caller bk base₁ c) (at k (v ∷ f.operands) f.slots f.loops F (tick w))) (sym d₃) (back_in f on u x y))

  pub keeps_ret : (values : List ℕ) {τ : Slots} {L : List Loop} {F : List Frame} {w : World} → Here t m a funcs Δ s b values τ L F w → (x : ℕ) → Says (ret x)
      → After t m a funcs Δ s b (ret x) values τ L F w
  unfolding exec flat_by asks off in_caller
  keeps_ret [] r₀ x e =
      let o = r₀.on in
      let k = asked_at t m a _ (ret x) o.on_tape e in
      let q = exactly t m a funcs Δ s b r₀ 0 k.operands in
      let h = piled_height o.piled in
      let d = looped_height o.loops in
      let none = eqb-true (length (scan_at t s.regs.at).body.loops) 0 k.loops in
      let fl = o.low_floor in
      let rk = o.rank in
      rw (o.agree x k.slot) (both_ways _ r₀.bytes r₀.steps (omega arith) r₀.under refl (omega arith) (omega arith))
  keeps_ret (v ∷ values) r₀ x e =
      let k = exactly t m a funcs Δ s b r₀ 0 (asked_at t m a _ (ret x) r₀.on.on_tape e).operands in absurd (omega arith)
