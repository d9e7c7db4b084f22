-- END keeps the relation of flat state and machine. Assumes nothing.
use mathlib.Core.Path.{◌≡◌, refl, sym, ap, ◌∙◌, subst}
use mathlib.Core.Bool.{Bool, true, false}
use mathlib.Core.List.{List, [], ◌∷◌}
use Prim.Native.Nat.{ℕ, suc, ◌+◌, ◌-◌, ◌≤◌, ◌<◌}
use native.Mathlib.Numerals.{add-one}
use native.Mathlib.Omega.{arith}
use borrow.Author.Tests.{ltb-true}
use lib.Dec.{leb, ltb}
use lib.ListN.{length, get_or, set as put_at, drop}
use lib.Seq.{get_or-set_same}
use Rattle.word.specs.Slots.{Slots, upd, fixed, Scope}
use Rattle.word.specs.Records.{record_at}
use Rattle.tape.specs.Instruction.{Instruction, Code, for, end, read, code_of}
use Rattle.tape.specs.Scan.{Known, Open, Scan, opens, close_by, closes, in_body, next}
use Rattle.tape.specs.Faults.{readable, asks}
use Rattle.tape.specs.Entries.{Entry}
use Rattle.tape.specs.Rules.{World, Loop, Frame, at, tick, pass, again, ending, exec}
use Rattle.tape.proofs.Cases.{for_fields}
use Rattle.tape.proofs.Places.{scan_at, Passed}
use Rattle.std.proofs.lemmas.Bool.{and_parts}
use Rattle.machine.specs.Flat.{Flat, flat, free, count, pick, pass_left, flat_by}
use Rattle.machine.proofs.Relation.{Inside, inside_same, inside_then, Opened, Looped, outside, looped, Stands, looped_height, looped_same}
use Rattle.machine.proofs.Moving.{below_put, Sized, asked_at, scan_next, next_record, under_same, fine}
use Rattle.machine.proofs.KeepsValues.{arrive, Here, After, wider, exactly, slot_agree, slot_room}

-- the innermost open loop
pub record Innermost (t fors passes : List ℕ) (known : List Known) (slots low d : ℕ) (D : Scope) (os : List Open) (L : List Loop) : Type 0 where
  pub f : ℕ
  pub q : ℕ
  pub o : Open
  pub outer : List Open
  pub l : Loop
  pub rest : List Loop
  pub opens_are : os ≡ o ∷ outer
  pub loops_are : L ≡ l ∷ rest
  pub some : 1 ≤ d
  pub for_is : get_or fors (d - 1) 0 ≡ f
  pub pass_is : get_or passes (d - 1) 0 ≡ l.pass
  pub opened : Opened t known slots f q o outer l
  pub inside : Inside (upd o.scope l.slot fixed) D
  pub below : Looped t fors passes known slots low (d - 1) o.scope outer rest

pub innermost : {t fors passes : List ℕ} {known : List Known} {slots low d : ℕ} {D : Scope} {os : List Open} {L : List Loop}
    → Looped t fors passes known slots low d D os L → 0 < length os → Innermost t fors passes known slots low d D os L
innermost outside h = absurd (omega arith)
innermost {t} {fors} {passes} {known} {slots} {low} (looped {d} {f} {q} {o = o} {os} {l} {L} a b c e p) h =
    let z : suc d - 1 ≡ d = omega arith in
    record {
      f = f;
      q = q;
      o = o;
      outer = os;
      l = l;
      rest = L;
      opens_are = refl;
      loops_are = refl;
      some = omega arith;
      for_is = ap (λ (k : ℕ). get_or fors k 0) z ∙ a;
      pass_is = ap (λ (k : ℕ). get_or passes k 0) z ∙ b;
      opened = c;
      inside = e;
      below = subst (λ (k : ℕ). Looped t fors passes known slots low k o.scope os L) (sym z) p;
    }

-- the code's test is the machine's
pub left_is : {t fors passes : List ℕ} {known : List Known} {slots low d : ℕ} {D : Scope} {os : List Open} {L : List Loop}
    (n : Innermost t fors passes known slots low d D os L) → pass_left t fors passes d ≡ ltb (suc n.l.pass) n.l.to
unfolding pass_left
left_is {t} n = rw (n.for_is, n.pass_is, (for_fields (record_at t n.f) n.opened.is).2, add-one n.l.pass) refl

module _ (t : List ℕ) (m : ℕ) (a : Passed t m) (funcs : List ℕ) (Δ : ℕ → Entry) (s : Flat) (b : Sized s) where
  abbrev Says : Instruction → Type 0
  Says x = read (record_at t s.regs.at) ≡ x

  module _ {τ : Slots} {L : List Loop} {F : List Frame} {w : World} (r₀ : Here t m a funcs Δ s b [] τ L F w) (e : Says end)
      (n : Innermost t s.fors s.passes (scan_at t s.regs.at).known (scan_at t s.regs.at).slots r₀.low s.regs.loops (scan_at t s.regs.at).body.scope
      (scan_at t s.regs.at).body.loops L) where
    S : Scan
    S = scan_at t s.regs.at

    fields : ((record_at t n.f).p ≡ n.l.slot) × ((record_at t n.f).q ≡ n.q) × ((record_at t n.f).r ≡ n.l.to)
    fields = for_fields (record_at t n.f) n.opened.is

    -- a further pass
    next_pass : suc n.l.pass < n.l.to
        → Stands t
        (flat (count s.regs (n.f + 1) s.regs.operands s.regs.loops) s.fors (put_at s.passes (s.regs.loops - 1) (n.l.pass + 1)) s.backs s.bases
        s.operands (put_at s.slots (s.regs.base + n.l.slot) (n.l.pass + 1)) s.memory)
        (at n.l.body [] (upd τ n.l.slot (suc n.l.pass)) (again n.l ∷ n.rest) F (tick w))
    unfolding count tick next opens in_body asks readable S again
    next_pass h =
        let o = r₀.on in
        let p = n.opened in
        let x = n.l.slot in
        let v = n.l.pass in
        let f = n.f in
        let d = s.regs.loops in
        let g = scan_next t m a f (for x n.q n.l.to) p.is in
        let k = asked_at t m a f (for x n.q n.l.to) p.there p.is in
        let range = and_parts (ltb x (scan_at t f).slots) (leb n.q n.l.to) k.range in
        let low = ltb-true x (scan_at t f).slots range.0 in
        let room = slot_room t m a funcs Δ s b r₀ x (omega (arith, p.slots_there)) in
        let due = ap (λ (z : Scan). z.due) g ∙ p.due_there in
        let known = ap (λ (z : Scan). z.known) g ∙ p.known_there in
        let slots = ap (λ (z : Scan). z.slots) g ∙ p.slots_there in
        let scope : (scan_at t (suc f)).body.scope ≡ upd n.o.scope x fixed =
        ap (λ (z : Scan). z.body.scope) g ∙ ap (λ (z : Open). upd z.scope x fixed) (sym p.is_open) in
        let loops : (scan_at t (suc f)).body.loops ≡ n.o ∷ n.outer =
        ap (λ (z : Scan). z.body.loops) g ∙ (λ j. sym p.is_open j ∷ p.loops_there j) in
        let opened : Opened t S.known S.slots f n.q n.o n.outer (again n.l) =
        record {
          there = p.there;
          is = p.is;
          body = p.body;
          passing = h;
          due_there = p.due_there;
          known_there = p.known_there;
          slots_there = p.slots_there;
          loops_there = p.loops_there;
          is_open = p.is_open;
        } in
        let one = n.some in
        let height = looped_height n.below in
        let up : suc (d - 1) ≡ d = omega arith in
        let few : d ≤ 128 = let u = o.low_loops in let y = o.rank in let z = (fine t m a s.regs.at o.on_tape).deep in let q = looped_height o.loops in omega arith in
        let inner =
        looped n.for_is (get_or-set_same s.passes (d - 1) (suc v) 0 (omega (arith, b.passes))) opened (inside_same (upd n.o.scope x fixed))
        (looped_same (λ j u. refl) (below_put s.passes (d - 1) (suc v)) n.below) in
        let z = flat (count s.regs (f + 1) s.regs.operands d) s.fors (put_at s.passes (d - 1) (suc v)) s.backs s.bases s.operands
        (put_at s.slots (s.regs.base + x) (suc v)) s.memory in
        rw (add-one v)
        (subst (λ (c : Code). Stands t z (at c [] (upd τ x (suc v)) (again n.l ∷ n.rest) F (tick w))) (sym p.body)
        (arrive {z = z} r₀.floor r₀.low (add-one f)
        (record {
          on_tape = next_record t m a f p.there due;
          in_body_lem = due;
          piled = o.piled;
          height = omega (arith, ap (λ (u : Scan). u.body.operands) g);
          loops = rw (known, slots, loops, scope) (subst (λ (k : ℕ). Looped t s.fors z.passes S.known S.slots r₀.low k (upd n.o.scope x fixed) (n.o ∷ n.outer) (again n.l ∷ n.rest)) up inner);
          agree = λ y u.
              slot_agree t m a funcs Δ s b r₀ x (suc v) (upd n.o.scope x fixed) room (λ q i j. n.inside.sees q i) y (rw scope at u);
          top_is = o.top_is ∙ ap (λ (k : ℕ). s.regs.base + k) (sym slots);
          rank = rw known o.rank;
          low_floor = o.low_floor;
          low_loops = o.low_loops;
          low_base = o.low_base;
        })
        (under_same t m a
        (record {
          operands = λ j u. refl;
          fors = λ j u. refl;
          passes = λ j u. below_put s.passes (d - 1) (suc v) j (omega arith);
          slots = λ j u. below_put s.slots (s.regs.base + x) (suc v) j (omega arith);
          backs = λ j u. refl;
          bases = λ j u. refl;
        }) r₀.under)
        r₀.bytes (omega (arith, r₀.steps))))

    -- the loop is over
    last_pass : Stands t (flat (free s.regs (s.regs.at + 1) s.regs.operands (s.regs.loops - 1)) s.fors s.passes s.backs s.bases s.operands s.slots s.memory)
        (at (drop (suc s.regs.at) (code_of t)) [] τ n.rest F w)
    unfolding free next closes close_by in_body S readable
    last_pass =
        let o = r₀.on in
        let i = s.regs.at in
        let g = scan_next t m a i end e ∙ ap (λ (z : List Open). in_body S (close_by S.body z)) n.opens_are in
        let due = ap (λ (z : Scan). z.due) g ∙ o.in_body_lem in
        let known = ap (λ (z : Scan). z.known) g in
        let slots = ap (λ (z : Scan). z.slots) g in
        let scope = ap (λ (z : Scan). z.body.scope) g in
        let loops = ap (λ (z : Scan). z.body.loops) g in
        let shown = inside_then (wider t m a funcs Δ s b n.o.scope n.l.slot fixed refl) n.inside in
        arrive r₀.floor r₀.low (add-one i)
        (record {
          on_tape = next_record t m a i o.on_tape due;
          in_body_lem = due;
          piled = o.piled;
          height = omega (arith, ap (λ (u : Scan). u.body.operands) g);
          loops = rw (known, slots, loops, scope) n.below;
          agree = λ y u. o.agree y (shown.sees y (rw scope at u));
          top_is = o.top_is ∙ ap (λ (k : ℕ). s.regs.base + k) (sym slots);
          rank = rw known o.rank;
          low_floor = o.low_floor;
          low_loops = o.low_loops;
          low_base = o.low_base;
        })
        (under_same t m a
        (record {
          operands = λ j u. refl;
          fors = λ j u. refl;
          passes = λ j u. refl;
          slots = λ j u. refl;
          backs = λ j u. refl;
          bases = λ j u. refl;
        }) r₀.under)
        r₀.bytes r₀.steps

    ended : After t m a funcs Δ s b end [] τ L F w
    unfolding exec flat_by pick ending pass again
    ended = rw n.loops_are (by (ltb (suc n.l.pass) n.l.to) refl)
      where
        by : (z : Bool) → ltb (suc n.l.pass) n.l.to ≡ z → Stands t (flat_by t funcs end s) (ending (n.l ∷ n.rest) (drop (suc s.regs.at) (code_of t)) [] τ F w)
        by true h = rw (left_is n ∙ h, n.for_is, n.pass_is, fields.0, h) (next_pass (ltb-true (suc n.l.pass) n.l.to h))
        by false h = rw (left_is n ∙ h, h) last_pass

  pub keeps_end : (values : List ℕ) {τ : Slots} {L : List Loop} {F : List Frame} {w : World} → Here t m a funcs Δ s b values τ L F w → Says end
      → After t m a funcs Δ s b end values τ L F w
  unfolding asks
  keeps_end [] {τ} {L} {F} {w} r₀ e =
      let k = asked_at t m a _ end r₀.on.on_tape e in
      ended r₀ e (innermost r₀.on.loops (ltb-true 0 _ k.loops))
  keeps_end (v ∷ values) r₀ e =
      let k = exactly t m a funcs Δ s b r₀ 0 (asked_at t m a _ end r₀.on.on_tape e).operands in absurd (omega arith)
