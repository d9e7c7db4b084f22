-- LIT, VAR, GET, NOT, BIN, DEF, SET and PUT keep the relation of flat state and machine. Assumes nothing.
use mathlib.Core.Path.{◌≡◌, refl, sym, ap, ◌∙◌, subst}
use mathlib.Core.Bool.{true}
use mathlib.Core.List.{List, [], ◌∷◌}
use mathlib.Core.Logic.{◌≢◌}
use Prim.Native.Nat.{ℕ, suc, ◌+◌, ◌-◌, ◌≤◌, ◌<◌}
use native.Mathlib.Numerals.{add-one}
use native.Mathlib.Omega.{arith}
use native.Mathlib.Decide.{ℕ_discrete}
use borrow.Author.Tests.{leb-true, eqb-true, ltb-true}
use lib.Dec.{leb}
use lib.ListN.{length, get_or, set as put_at, drop}
use lib.Seq.{get_or-set_same, get_or-set_other}
use Rattle.word.specs.Slots.{Slots, upd, Seen, defined, Scope}
use Rattle.word.specs.Records.{record_at}
use Rattle.word.specs.Bytes.{fetch, store}
use Rattle.word.proofs.Memory.{upd_same, upd_other}
use Rattle.tape.specs.Instruction.{Instruction, lit, var, get, not, bin, def, set, put, read, code_of}
use Rattle.tape.specs.Scan.{Scan, leaves, states, in_body, next}
use Rattle.tape.specs.Faults.{readable, asks, takes, just}
use Rattle.tape.specs.Entries.{Entry}
use Rattle.tape.specs.Rules.{World, Loop, Frame, at, tick, stored, one, two, exec}
use Rattle.tape.proofs.Places.{scan_at, Passed}
use Rattle.std.proofs.lemmas.Bool.{and_parts}
use Rattle.machine.specs.Flat.{Flat, flat, free, count, sizes, flat_by}
use Rattle.machine.specs.declared.registers.Registers.{Registers}
use Rattle.machine.proofs.Piled.{Piled, bare, piled_height, piled_on, topped, twice, piled_top, piled_two}
use Rattle.machine.proofs.Relation.{Inside, inside_same, On, Under, Stands, running, Kept}
use Rattle.machine.proofs.Moving.{below_put, Sized, asked_at, scan_next, under_same, on_move, fine}

-- the scope of the next record, where it stays
pub inside_is : {D E : Scope} → E ≡ D → Inside D E
inside_is {D} e = rw e (inside_same D)

-- a flat state at record j stands for the machine at the code from j on
pub arrive : {t : List ℕ} {z : Flat} {j : ℕ} (floor low : ℕ) {values : List ℕ} {τ : Slots} {L : List Loop} {F : List Frame} {w : World} → z.regs.at ≡ j
    → On t z j 0 z.regs.operands floor z.regs.loops low z.regs.base z.regs.top z.regs.calls values τ L
    → Under t z z.regs.calls floor low z.regs.base F → z.memory ≡ w.bytes → z.regs.steps ≡ w.steps
    → Stands t z (at (drop j (code_of t)) values τ L F w)
arrive {t} {z} floor low {values} {τ} {L} {F} {w} e o u b k =
    let r = z.regs in
    subst (λ (i : ℕ). Stands t z (at (drop i (code_of t)) values τ L F w)) e
    (running floor low (subst (λ (i : ℕ). On t z i 0 r.operands floor r.loops low r.base r.top r.calls values τ L) (sym e) o) u b k)

-- operands from `floor` on change
pub kept_operands : (s : Flat) (g : Registers) (o : List ℕ) (floor low base calls : ℕ) → ((j : ℕ) → j < floor → get_or o j 0 ≡ get_or s.operands j 0)
    → Kept s (flat g s.fors s.passes s.backs s.bases o s.slots s.memory) floor low base calls
kept_operands s g o floor low base calls h =
    record { operands = h; fors = λ j l. refl; passes = λ j l. refl; slots = λ j l. refl; backs = λ j l. refl; bases = λ j l. refl }

-- a slot of the present function, or the bytes
pub kept_slots : (s : Flat) (g : Registers) (v m : List ℕ) (floor low base calls : ℕ) → ((j : ℕ) → j < base → get_or v j 0 ≡ get_or s.slots j 0)
    → Kept s (flat g s.fors s.passes s.backs s.bases s.operands v m) floor low base calls
kept_slots s g v m floor low base calls h =
    record { operands = λ j l. refl; fors = λ j l. refl; passes = λ j l. refl; slots = h; backs = λ j l. refl; bases = λ j l. refl }

-- the machine runs, and the flat state stands for it
pub record Running (t : List ℕ) (s : Flat) (values : List ℕ) (τ : Slots) (L : List Loop) (F : List Frame) (w : World) : Type 0 where
  pub floor : ℕ
  pub low : ℕ
  pub on : On t s s.regs.at 0 s.regs.operands floor s.regs.loops low s.regs.base s.regs.top s.regs.calls values τ L
  pub under : Under t s s.regs.calls floor low s.regs.base F
  pub bytes : s.memory ≡ w.bytes
  pub steps : s.regs.steps ≡ w.steps

module _ (t : List ℕ) (m : ℕ) (a : Passed t m) where
  -- an expression's record: k operands are taken, and a value is left
  leave : {s z : Flat} {i n floor deep low base top calls : ℕ} {values : List ℕ} {τ : Slots} {L : List Loop} (x : Instruction) (k c n₁ v : ℕ) (rest : List ℕ)
      → read (record_at t i) ≡ x → next (scan_at t i) i x ≡ in_body (scan_at t i) (leaves (scan_at t i).body k c)
      → On t s i 0 n floor deep low base top calls values τ L → length rest + k ≡ length values
      → z.fors ≡ s.fors → z.passes ≡ s.passes → z.slots ≡ s.slots → Piled z.operands floor n₁ (v ∷ rest)
      → On t z (suc i) 0 n₁ floor deep low base top calls (v ∷ rest) τ L
  unfolding in_body leaves
  leave {i} {base} {τ} x k c n₁ v rest e q o l f p d piled =
      let r = scan_next t m a i x e ∙ q in
      let h = o.height in
      let scope = ap (λ (z : Scan). z.body.scope) r in
      on_move t m a n₁ (v ∷ rest) τ o (ap (λ (z : Scan). z.due) r ∙ o.in_body_lem) (ap (λ (z : Scan). z.known) r) (ap (λ (z : Scan). z.slots) r)
      (ap (λ (z : Scan). z.body.loops) r) (inside_is scope) f p piled (omega (arith, ap (λ (z : Scan). z.body.operands) r))
      (λ y w. ap (λ (u : List ℕ). get_or u (base + y) 0) d ∙ o.agree y (rw scope at w))

  module _ (funcs : List ℕ) (Δ : ℕ → Entry) (s : Flat) (b : Sized s) where
    -- the machine at hand, and what it is after the record at hand, if that says x
    abbrev pub Here : List ℕ → Slots → List Loop → List Frame → World → Type 0
    Here values τ L F w = Running t s values τ L F w

    abbrev pub After : Instruction → List ℕ → Slots → List Loop → List Frame → World → Type 0
    After x values τ L F w = Stands t (flat_by t funcs x s) (exec (sizes t) Δ x (drop (suc s.regs.at) (code_of t)) values τ L F w)

    abbrev Says : Instruction → Type 0
    Says x = read (record_at t s.regs.at) ≡ x

    module _ {values : List ℕ} {τ : Slots} {L : List Loop} {F : List Frame} {w : World} (r : Running t s values τ L F w) where
      floor_low : r.floor ≤ s.regs.operands
      floor_low = let h = piled_height r.on.piled in omega arith

      -- how many operands there are at most, and at least
      pub room : (k : ℕ) → takes k (scan_at t s.regs.at) ≡ true → (s.regs.operands + 1 ≤ 2048 + k) × (k ≤ length values) × (s.regs.operands ≤ 2048)
      unfolding takes
      room k e =
          let n = (scan_at t s.regs.at).body.operands in
          let c = and_parts (leb k n) _ e in
          let h = piled_height r.on.piled in
          let f = r.on.low_floor in
          let q = r.on.rank in
          let y = r.on.height in
          let u = leb-true k n c.0 in
          let v = leb-true (suc (n - k)) 128 c.1 in
          let z = (fine t m a s.regs.at r.on.on_tape).heights in
          (omega arith, omega arith, omega arith)

      pub exactly : (k : ℕ) → just k (scan_at t s.regs.at) ≡ true → (length values ≡ k) × (s.regs.operands ≡ r.floor + k) × (s.regs.operands ≤ 2048)
      unfolding just
      exactly k e =
          let n = (scan_at t s.regs.at).body.operands in
          let h = piled_height r.on.piled in
          let y = r.on.height in
          let q = eqb-true n k e in
          let f = r.on.low_floor in
          let k = r.on.rank in
          let z = (fine t m a s.regs.at r.on.on_tape).heights in
          (omega arith, omega arith, omega arith)

      -- on to the next record, in the same frame and the same loops
      abbrev pub moved : ℕ → ℕ → ℕ → Registers
      moved i n k =
          let g = s.regs in
          record { at = i; operands = n; loops = g.loops; base = g.base; top = g.top; calls = g.calls; steps = k }

      -- a value is left at j, from `floor` on
      pub left_at : (x : Instruction) (k c j i n₁ v : ℕ) (rest : List ℕ) (steps₁ : ℕ) (w₁ : World) → Says x
          → next (scan_at t s.regs.at) s.regs.at x ≡ in_body (scan_at t s.regs.at) (leaves (scan_at t s.regs.at).body k c)
          → i ≡ suc s.regs.at → r.floor ≤ j → length rest + k ≡ length values → Piled (put_at s.operands j v) r.floor n₁ (v ∷ rest)
          → s.memory ≡ w₁.bytes → steps₁ ≡ w₁.steps
          → Stands t (flat (moved i n₁ steps₁) s.fors s.passes s.backs s.bases (put_at s.operands j v) s.slots s.memory)
          (at (drop (suc s.regs.at) (code_of t)) (v ∷ rest) τ L F w₁)
      left_at x k c j i n₁ v rest steps₁ w₁ e q p l h piled y z =
          arrive r.floor r.low p (leave x k c n₁ v rest e q r.on h refl refl refl piled)
          (under_same t m a (kept_operands s _ _ r.floor r.low _ _ (λ n d. below_put s.operands j v n (omega arith))) r.under) y z

    pub keeps_lit : (values : List ℕ) {τ : Slots} {L : List Loop} {F : List Frame} {w : World} → Here values τ L F w → (v : ℕ) → Says (lit v) → After (lit v) values τ L F w
    unfolding exec flat_by free next asks
    keeps_lit values r v e =
        let n = s.regs.operands in
        let q = room r 0 (asked_at t m a _ (lit v) r.on.on_tape e).operands in
        left_at r (lit v) 0 0 n _ (n + 1) v values _ _ e refl (add-one s.regs.at) (floor_low r) (omega arith)
        (rw (add-one n) (piled_on v (omega (arith, b.operands)) r.on.piled)) r.bytes r.steps

    pub keeps_var : (values : List ℕ) {τ : Slots} {L : List Loop} {F : List Frame} {w : World} → Here values τ L F w → (x : ℕ) → Says (var x) → After (var x) values τ L F w
    unfolding exec flat_by count next asks tick
    keeps_var values r x e =
        let n = s.regs.operands in
        let k = asked_at t m a _ (var x) r.on.on_tape e in
        let q = room r 0 k.operands in
        rw (r.on.agree x k.slot)
        (left_at r (var x) 0 1 n _ (n + 1) _ values _ _ e refl (add-one s.regs.at) (floor_low r) (omega arith)
        (rw (add-one n) (piled_on _ (omega (arith, b.operands)) r.on.piled)) r.bytes (omega (arith, r.steps)))

    pub keeps_get : (values : List ℕ) {τ : Slots} {L : List Loop} {F : List Frame} {w : World} → Here values τ L F w → (x : ℕ) → Says (get x) → After (get x) values τ L F w
    unfolding exec flat_by count next asks tick one
    keeps_get [] r x e = let q = room r 1 (asked_at t m a _ (get x) r.on.on_tape e).operands in absurd (omega arith)
    keeps_get (i ∷ rest) {w = w} r x e =
        let n = s.regs.operands in
        let q = room r 1 (asked_at t m a _ (get x) r.on.on_tape e).operands in
        let top = topped r.on.piled in
        let h = piled_height top.below in
        let is : fetch (sizes t) s.memory x (get_or s.operands (n - 1) 0) ≡ fetch (sizes t) w.bytes x i = λ j. fetch (sizes t) (r.bytes j) x (top.is j) in
        rw (← is)
        (left_at r (get x) 1 1 (n - 1) _ n _ rest _ _ e refl (add-one s.regs.at) (omega arith) (omega arith)
        (piled_top _ (omega (arith, b.operands)) r.on.piled) r.bytes (omega (arith, r.steps)))

    pub keeps_not : (values : List ℕ) {τ : Slots} {L : List Loop} {F : List Frame} {w : World} → Here values τ L F w → Says not → After not values τ L F w
    unfolding exec flat_by count next asks tick one
    keeps_not [] r e = let q = room r 1 (asked_at t m a _ not r.on.on_tape e).operands in absurd (omega arith)
    keeps_not (i ∷ rest) r e =
        let n = s.regs.operands in
        let q = room r 1 (asked_at t m a _ not r.on.on_tape e).operands in
        let top = topped r.on.piled in
        let h = piled_height top.below in
        rw top.is
        (left_at r not 1 1 (n - 1) _ n _ rest _ _ e refl (add-one s.regs.at) (omega arith) (omega arith)
        (piled_top _ (omega (arith, b.operands)) r.on.piled) r.bytes (omega (arith, r.steps)))

    pub keeps_bin : (values : List ℕ) {τ : Slots} {L : List Loop} {F : List Frame} {w : World} → Here values τ L F w → (x : ℕ) → Says (bin x) → After (bin x) values τ L F w
    unfolding exec flat_by count next asks tick two
    keeps_bin [] r x e = let q = room r 2 (asked_at t m a _ (bin x) r.on.on_tape e).operands in absurd (omega arith)
    keeps_bin (v ∷ []) r x e = let q = room r 2 (asked_at t m a _ (bin x) r.on.on_tape e).operands in absurd (omega arith)
    keeps_bin (v ∷ u ∷ rest) r x e =
        let n = s.regs.operands in
        let q = room r 2 (asked_at t m a _ (bin x) r.on.on_tape e).operands in
        let pair = twice r.on.piled in
        let h = piled_height pair.below in
        rw (pair.upper, pair.lower)
        (left_at r (bin x) 2 1 (n - 2) _ (n - 1) _ rest _ _ e refl (add-one s.regs.at) (omega arith) (omega arith)
        (piled_two _ (omega (arith, b.operands)) r.on.piled) r.bytes (omega (arith, r.steps)))

    -- ---- DEF, SET, PUT: no operands are left
    module _ {values : List ℕ} {τ : Slots} {L : List Loop} {F : List Frame} {w : World} (r : Running t s values τ L F w) where
      -- in a scope D that shows all that was visible, with slots that agree there
      pub stated : (x : Instruction) (D : Scope) (i n₁ : ℕ) (slots₁ memory₁ : List ℕ) (τ₁ : Slots) (steps₁ : ℕ) (w₁ : World) → Says x
          → next (scan_at t s.regs.at) s.regs.at x ≡ in_body (scan_at t s.regs.at) (states (scan_at t s.regs.at).body D)
          → i ≡ suc s.regs.at → n₁ ≡ r.floor → Inside (scan_at t s.regs.at).body.scope D
          → ((y : ℕ) → readable (D y) ≡ true → get_or slots₁ (s.regs.base + y) 0 ≡ τ₁ y)
          → ((j : ℕ) → j < s.regs.base → get_or slots₁ j 0 ≡ get_or s.slots j 0) → memory₁ ≡ w₁.bytes → steps₁ ≡ w₁.steps
          → Stands t (flat (moved r i n₁ steps₁) s.fors s.passes s.backs s.bases s.operands slots₁ memory₁)
          (at (drop (suc s.regs.at) (code_of t)) [] τ₁ L F w₁)
      unfolding in_body states
      stated x D i n₁ slots₁ memory₁ τ₁ steps₁ w₁ e q p l inside agree low y z =
          let h = scan_next t m a s.regs.at x e ∙ q in
          let scope = ap (λ (v : Scan). v.body.scope) h in
          let o = r.on in
          arrive r.floor r.low p
          (on_move t m a n₁ [] τ₁ o (ap (λ (v : Scan). v.due) h ∙ o.in_body_lem) (ap (λ (v : Scan). v.known) h) (ap (λ (v : Scan). v.slots) h)
          (ap (λ (v : Scan). v.body.loops) h) (rw scope inside) refl refl (rw l bare) (omega (arith, ap (λ (v : Scan). v.body.operands) h))
          (λ v u. agree v (rw scope at u)))
          (under_same t m a (kept_slots s _ slots₁ memory₁ r.floor r.low _ _ low) r.under) y z

      -- a slot of the present function, and its list afterwards
      pub slot_agree : (x v : ℕ) (D : Scope) → s.regs.base + x < 1024 → ((y : ℕ) → readable (D y) ≡ true → y ≢ x → readable ((scan_at t s.regs.at).body.scope y) ≡ true)
          → (y : ℕ) → readable (D y) ≡ true → get_or (put_at s.slots (s.regs.base + x) v) (s.regs.base + y) 0 ≡ upd τ x v y
      slot_agree x v D l other y h = go (ℕ_discrete y x)
        where
          go : Dec (y ≡ x) → get_or (put_at s.slots (s.regs.base + x) v) (s.regs.base + y) 0 ≡ upd τ x v y
          go (yes e) = rw e (get_or-set_same s.slots (s.regs.base + x) v 0 (omega (arith, b.slots)) ∙ sym (upd_same τ x v))
          go (no d) =
              get_or-set_other s.slots (s.regs.base + x) (s.regs.base + y) v 0 (λ q. d (omega arith)) ∙ r.on.agree y (other y h d) ∙ sym (upd_other τ x v y d)

      pub slot_room : (x : ℕ) → x < (scan_at t s.regs.at).slots → s.regs.base + x < 1024
      slot_room x h =
          let f = (fine t m a s.regs.at r.on.on_tape).small in
          let l = r.on.low_base in
          let k = r.on.rank in
          omega arith

    pub wider : (D : Scope) (x : ℕ) (k : Seen) → readable k ≡ true → Inside D (upd D x k)
    wider D x k h = record { sees = λ y v. go y v (ℕ_discrete y x) }
      where
        go : (y : ℕ) → readable (D y) ≡ true → Dec (y ≡ x) → readable (upd D x k y) ≡ true
        go y v (yes e) = rw (e, upd_same D x k) h
        go y v (no d) = rw (upd_other D x k y d) v

    pub keeps_def : (values : List ℕ) {τ : Slots} {L : List Loop} {F : List Frame} {w : World} → Here values τ L F w → (x : ℕ) → Says (def x) → After (def x) values τ L F w
    unfolding exec flat_by count next asks tick one readable
    keeps_def [] r x e = let q = exactly r 1 (asked_at t m a _ (def x) r.on.on_tape e).operands in absurd (omega arith)
    keeps_def (v ∷ []) {τ = τ} r x e =
        let k = asked_at t m a _ (def x) r.on.on_tape e in
        let q = exactly r 1 k.operands in
        let D = (scan_at t s.regs.at).body.scope in
        let l = slot_room r x (ltb-true x _ k.range) in
        rw (topped r.on.piled).is
        (stated r (def x) (upd D x defined) _ _ _ _ (upd τ x v) _ _ e refl (add-one s.regs.at) (omega arith) (wider D x defined refl)
        (slot_agree r x v (upd D x defined) l (λ y h d. rw (upd_other D x defined y d) at h)) (λ j h. below_put s.slots (s.regs.base + x) v j (omega arith))
        r.bytes (omega (arith, r.steps)))
    keeps_def (v ∷ u ∷ rest) r x e = let q = exactly r 1 (asked_at t m a _ (def x) r.on.on_tape e).operands in absurd (omega arith)

    pub keeps_set : (values : List ℕ) {τ : Slots} {L : List Loop} {F : List Frame} {w : World} → Here values τ L F w → (x : ℕ) → Says (set x) → After (set x) values τ L F w
    unfolding exec flat_by count next asks tick one
    keeps_set [] r x e = let q = exactly r 1 (asked_at t m a _ (set x) r.on.on_tape e).operands in absurd (omega arith)
    keeps_set (v ∷ []) {τ = τ} r x e =
        let k = asked_at t m a _ (set x) r.on.on_tape e in
        let q = exactly r 1 k.operands in
        let D = (scan_at t s.regs.at).body.scope in
        let l = slot_room r x (ltb-true x _ k.range) in
        rw (topped r.on.piled).is
        (stated r (set x) D _ _ _ _ (upd τ x v) _ _ e refl (add-one s.regs.at) (omega arith) (inside_same D) (slot_agree r x v D l (λ y h d. h))
        (λ j h. below_put s.slots (s.regs.base + x) v j (omega arith)) r.bytes (omega (arith, r.steps)))
    keeps_set (v ∷ u ∷ rest) r x e = let q = exactly r 1 (asked_at t m a _ (set x) r.on.on_tape e).operands in absurd (omega arith)

    pub keeps_put : (values : List ℕ) {τ : Slots} {L : List Loop} {F : List Frame} {w : World} → Here values τ L F w → (x : ℕ) → Says (put x) → After (put x) values τ L F w
    unfolding exec flat_by count next asks tick stored two
    keeps_put [] r x e = let q = exactly r 2 (asked_at t m a _ (put x) r.on.on_tape e).operands in absurd (omega arith)
    keeps_put (v ∷ []) r x e = let q = exactly r 2 (asked_at t m a _ (put x) r.on.on_tape e).operands in absurd (omega arith)
    keeps_put (v ∷ u ∷ []) {τ = τ} r x e =
        let k = asked_at t m a _ (put x) r.on.on_tape e in
        let q = exactly r 2 k.operands in
        let D = (scan_at t s.regs.at).body.scope in
        let pair = twice r.on.piled in
        rw (pair.upper, pair.lower)
        (stated r (put x) D _ _ _ _ τ _ _ e refl (add-one s.regs.at) (omega arith) (inside_same D) r.on.agree (λ j h. refl)
        (ap (λ (b : List ℕ). store (sizes t) b x u v) r.bytes) (omega (arith, r.steps)))
    keeps_put (v ∷ u ∷ z ∷ rest) r x e = let q = exactly r 2 (asked_at t m a _ (put x) r.on.on_tape e).operands in absurd (omega arith)
