-- What holds of the scan's state before every record of an accepted tape: its numbers are in their ranges, and what is visible lies below the
-- function's slots. Assumes nothing.
use mathlib.Core.Path.{◌≡◌, refl, sym, ◌∙◌, subst}
use mathlib.Core.Bool.{Bool, true, false, cond, ◌&&◌, false≢true}
use mathlib.Core.List.{List, [], ◌∷◌}
use mathlib.Core.Logic.{◌≢◌}
use Prim.Native.Nat.{ℕ, zero, suc, ◌-◌, ◌≤◌, ◌<◌}
use native.Mathlib.Omega.{arith}
use native.Mathlib.Decide.{ℕ_discrete}
use borrow.Author.Tests.{eqb-true, eqb-false, leb-true, ltb-true}
use lib.Dec.{ltb, leb, eqb}
use lib.ListN.{length, length-append}
use Rattle.std.proofs.lemmas.Bool.{and_parts}
use Rattle.word.specs.Slots.{upd, Seen, fixed, defined, Scope, parameter, begin}
use Rattle.word.specs.Records.{records, record_at}
use Rattle.word.specs.declared.Record.{Record}
use Rattle.word.proofs.Memory.{upd_other}
use Rattle.tape.specs.Instruction.{Instruction, read}
use Rattle.tape.specs.Scan.{Due, a_program, an_array, a_function, a_body, nothing, Open, Body, Scan, known_at, opening, start, leaves, states, opens, close_by, closes, in_body, headed, arrayed, enters, returns, next}
use Rattle.tape.specs.Faults.{due, more, asks, takes, readable}
use Rattle.tape.proofs.Cases.{by_kind}
use Rattle.tape.proofs.Places.{scan_at, Clean, Passed}

-- what is visible lies below n
abbrev pub Below : ℕ → Scope → Type 0
Below n D = (x : ℕ) → readable (D x) ≡ true → x < n

pub data AllBelow (n : ℕ) : List Open → Type 0 where
  none_open : AllBelow n []
  one_open : {o : Open} {loops : List Open} → Below n o.scope → AllBelow n loops → AllBelow n (o ∷ loops)

unfoldable pub underway : Due → Bool
underway a_program = false
underway an_array = true
underway a_function = true
underway a_body = true
underway nothing = false

pub record Fine (s : Scan) : Type 0 where
  pub visible : Below s.slots s.body.scope
  pub outer : AllBelow s.slots s.body.loops
  pub small : s.slots ≤ 64
  pub heights : s.body.operands ≤ 128
  pub deep : length s.body.loops ≤ 8
  pub many : s.functions ≤ 16
  pub ranked : underway s.due ≡ true → length s.known < s.functions
  pub over : s.due ≡ nothing → (length s.known ≡ s.functions) × (1 ≤ s.functions)

-- ---- scopes
pub begin_below : (p n : ℕ) → p ≤ n → Below n (begin p)
unfolding begin parameter readable
begin_below p n h x = go (ltb x p) refl
  where
    go : (b : Bool) → ltb x p ≡ b → readable (parameter b) ≡ true → x < n
    go true e q = omega (arith, ltb-true x p e)
    go false e q = absurd (false≢true q)

upd_below : {n : ℕ} (D : Scope) (x : ℕ) (k : Seen) → x < n → Below n D → Below n (upd D x k)
upd_below {n} D x k h b y q = go (ℕ_discrete y x)
  where
    go : Dec (y ≡ x) → y < n
    go (yes e) = rw e h
    go (no d) = b y (rw (upd_other D x k y d) at q)

-- ---- tests that passed
-- a record that is due is no PROGRAM's but at the start
progress : (d : Due) (k : ℕ) → more d ≡ true → due d k ≡ true → (k ≡ 1 → ⊥) → underway d ≡ true
unfolding more due underway
progress a_program k m e h = absurd (h (eqb-true k 1 e))
progress an_array k m e h = refl
progress a_function k m e h = refl
progress a_body k m e h = refl
progress nothing k m e h = absurd (false≢true m)

not_over : (d : Due) → more d ≡ true → d ≡ nothing → ⊥
unfolding more
not_over d m e = false≢true (subst (λ (z : Due). more z ≡ true) e m)

-- ---- each record keeps it
module _ (s : Scan) (f : Fine s) where
  -- a record of the body: the operands and the loops stay in their ranges
  in_body_lem : (b : Body) → more s.due ≡ true → Below s.slots b.scope → AllBelow s.slots b.loops → b.operands ≤ 128 → length b.loops ≤ 8 → Fine (in_body s b)
  unfolding in_body
  in_body_lem b m v o h d =
      record {
        visible = v;
        outer = o;
        small = f.small;
        heights = h;
        deep = d;
        many = f.many;
        ranked = f.ranked;
        over = λ e. absurd (not_over s.due m e);
      }

  leaving : (n c : ℕ) → more s.due ≡ true → takes n s ≡ true → Fine (in_body s (leaves s.body n c))
  unfolding takes leaves
  leaving n c m e =
      in_body_lem _ m f.visible f.outer (leb-true (suc (s.body.operands - n)) 128 (and_parts (leb n s.body.operands) _ e).1) f.deep

  stating : (D : Scope) → more s.due ≡ true → Below s.slots D → Fine (in_body s (states s.body D))
  unfolding states
  stating D m b = in_body_lem _ m b f.outer (omega arith) f.deep

  closing : more s.due ≡ true → Fine (in_body s (closes s.body))
  unfolding closes close_by
  closing m = go s.body.loops f.outer f.deep
    where
      go : (loops : List Open) → AllBelow s.slots loops → length loops ≤ 8 → Fine (in_body s (close_by s.body loops))
      go [] a l = in_body_lem s.body m f.visible f.outer f.heights f.deep
      go (o ∷ loops) (one_open b a) l = in_body_lem _ m b a (omega arith) (omega arith)

  looping : (x passes : ℕ) → more s.due ≡ true → x < s.slots → ltb (length s.body.loops) 8 ≡ true → Fine (in_body s (opens s.body x passes))
  unfolding opens
  looping x passes m h l =
      in_body_lem _ m (upd_below s.body.scope x fixed h f.visible) (one_open f.visible f.outer) (omega arith) (omega (arith, ltb-true (length s.body.loops) 8 l))

  -- ARRAY, CFUNC and RET
  arraying : (at : ℕ) → underway s.due ≡ true → Fine (arrayed s at)
  unfolding arrayed underway
  arraying at u =
      record {
        visible = f.visible;
        outer = f.outer;
        small = f.small;
        heights = f.heights;
        deep = f.deep;
        many = f.many;
        ranked = λ e. f.ranked u;
        over = λ e. absurd (go (ltb at s.arrays) e);
      }
    where
      go : (b : Bool) → cond b an_array a_function ≡ nothing → ⊥
      go true e = let z : ◌≡◌ {A = ℕ} 0 1 = cc in omega arith
      go false e = let z : ◌≡◌ {A = ℕ} 0 1 = cc in omega arith

  entering : (at p q : ℕ) → underway s.due ≡ true → p ≤ q → q ≤ 64 → Fine (enters s at p q)
  unfolding enters opening
  entering at p q u h k =
      record {
        visible = begin_below p q h;
        outer = none_open;
        small = k;
        heights = omega arith;
        deep = omega arith;
        many = f.many;
        ranked = λ e. f.ranked u;
        over = λ e. let z : ◌≡◌ {A = ℕ} 0 1 = cc in absurd (omega arith);
      }

  returning : underway s.due ≡ true → Fine (returns s)
  unfolding returns underway
  returning u =
      let k = f.ranked u in
      let l = length-append s.known (record { params = s.params; steps = suc s.body.steps; place = s.place } ∷ []) in
      record {
        visible = f.visible;
        outer = f.outer;
        small = f.small;
        heights = f.heights;
        deep = f.deep;
        many = f.many;
        ranked = λ e. omega (arith, l, k, go (eqb (suc (length s.known)) s.functions) refl e);
        over = λ e. let q = stop (eqb (suc (length s.known)) s.functions) refl e in (omega (arith, l, q), omega (arith, q));
      }
    where
      go : (b : Bool) → eqb (suc (length s.known)) s.functions ≡ b → underway (cond b nothing a_function) ≡ true → suc (length s.known) ≢ s.functions
      go true e q = absurd (false≢true q)
      go false e q = eqb-false _ _ e

      stop : (b : Bool) → eqb (suc (length s.known)) s.functions ≡ b → cond b nothing a_function ≡ nothing → suc (length s.known) ≡ s.functions
      stop true e q = eqb-true _ _ e
      stop false e q = let z : ◌≡◌ {A = ℕ} 0 1 = cc in absurd (omega arith)

heading : (p q : ℕ) → 1 ≤ p → p ≤ 16 → Fine (headed p q)
unfolding headed opening underway
heading p q h k =
    record {
      visible = begin_below 0 0 (omega arith);
      outer = none_open;
      small = omega arith;
      heights = omega arith;
      deep = omega arith;
      many = k;
      ranked = λ e. h;
      over = λ e. absurd (go (eqb q 0) e);
    }
  where
    go : (b : Bool) → cond b a_function an_array ≡ nothing → ⊥
    go true e = let z : ◌≡◌ {A = ℕ} 0 1 = cc in omega arith
    go false e = let z : ◌≡◌ {A = ℕ} 0 1 = cc in omega arith

-- what `Clean` says, of one instruction
pub record Asks (s : Scan) (i : Instruction) : Type 0 where
  pub range : (asks s i).range ≡ true
  pub loops : (asks s i).loops ≡ true
  pub operands : (asks s i).operands ≡ true
  pub slot : (asks s i).slot ≡ true

pub fine_next : (s : Scan) (at : ℕ) (x : Record) → Fine s → Clean s x → Fine (next s at (read x))
unfolding next asks
fine_next s at x f c =
    let m = c.due_now in
    let later : (x.kind ≡ 1 → ⊥) → underway s.due ≡ true = progress s.due x.kind m c.kind in
    let u : (k : ℕ) → x.kind ≡ k → (k ≡ 1 → ⊥) → underway s.due ≡ true = λ k e h. later (λ q. h (sym e ∙ q)) in
    by_kind (λ i. Asks s i → Fine (next s at i)) x
    (record {
      on_program = λ e a.
          let r = (and_parts (leb 1 x.p && leb x.p 16) (leb x.q 8) a.range).0 in
          let l = and_parts (leb 1 x.p) (leb x.p 16) r in
          heading x.p x.q (leb-true 1 x.p l.0) (leb-true x.p 16 l.1);
      on_array = λ e a. arraying s f at (u 2 e (λ q. omega arith));
      on_cfunc = λ e a.
          let r = and_parts (leb x.p 8 && leb x.p x.q) (leb x.q 64) a.range in
          let l = and_parts (leb x.p 8) (leb x.p x.q) r.0 in
          entering s f at x.p x.q (u 3 e (λ q. omega arith)) (leb-true x.p x.q l.1) (leb-true x.q 64 r.1);
      on_lit = λ e a. leaving s f 0 0 m a.operands;
      on_var = λ e a. leaving s f 0 1 m a.operands;
      on_get = λ e a. leaving s f 1 1 m a.operands;
      on_not = λ e a. leaving s f 1 1 m a.operands;
      on_bin = λ e a. leaving s f 2 1 m a.operands;
      on_call = λ e a. leaving s f (known_at s x.p).params (suc (known_at s x.p).steps) m a.operands;
      on_def = λ e a. stating s f _ m (upd_below s.body.scope x.p defined (ltb-true x.p s.slots a.range) f.visible);
      on_set = λ e a. stating s f _ m f.visible;
      on_put = λ e a. stating s f _ m f.visible;
      on_for = λ e a.
          let r = (and_parts (ltb x.p s.slots) (leb x.q x.r) a.range).0 in
          looping s f x.p (x.r - x.q) m (ltb-true x.p s.slots r) a.loops;
      on_end = λ e a. closing s f m;
      on_ret = λ e a. returning s f (u 21 e (λ q. omega arith));
      on_other = λ a. f;
    })
    (record { range = c.range; loops = c.loops; operands = c.operands; slot = c.slot })

pub fine_start : Fine start
unfolding start opening underway
fine_start =
    record {
      visible = begin_below 0 0 (omega arith);
      outer = none_open;
      small = omega arith;
      heights = omega arith;
      deep = omega arith;
      many = omega arith;
      ranked = λ e. absurd (false≢true e);
      over = λ e. let z : ◌≡◌ {A = ℕ} 0 1 = cc in absurd (omega arith);
    }

pub fine_at : (t : List ℕ) (m : ℕ) → Passed t m → (i : ℕ) → i ≤ records t → Fine (scan_at t i)
unfolding scan_at
fine_at t m a zero h = fine_start
fine_at t m a (suc i) h = fine_next (scan_at t i) i (record_at t i) (fine_at t m a i (omega arith)) (a.faultless i h)
