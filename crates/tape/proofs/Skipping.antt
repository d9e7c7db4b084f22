-- Past a loop of an accepted tape the scan stands as it stood before its FOR: in the same function, the same loops and the same scope.
-- Assumes nothing.
use mathlib.Core.Path.{◌≡◌, refl, sym, ap, ◌∙◌}
use mathlib.Core.Bool.{true}
use mathlib.Core.List.{List, [], ◌∷◌, ◌++◌}
use Prim.Native.Nat.{ℕ, zero, suc, ◌+◌, ◌-◌, ◌≤◌, ◌<◌}
use native.Mathlib.Omega.{arith}
use borrow.Author.Tests.{eqb-true, leb-true}
use lib.Dec.{leb}
use lib.ListN.{length, drop, length-append}
use Rattle.word.specs.Records.{records, record_at, same}
use Rattle.tape.specs.Instruction.{Instruction, Code, for, end, ret, read, write, code_of}
use Rattle.tape.specs.Scan.{Due, a_body, nothing, Known, Open, Body, Scan, leaves, states, opens, close_by, closes, in_body, next}
use Rattle.tape.specs.Faults.{due, asks}
use Rattle.tape.specs.Rules.{past}
use Rattle.tape.proofs.Cases.{by_kind}
use Rattle.tape.proofs.Reading.{code_from}
use Rattle.tape.proofs.Places.{scan_at, Passed}
use Rattle.std.proofs.lemmas.Bool.{and_parts}
use Rattle.tape.proofs.Steady.{Asks}
use Rattle.tape.proofs.Positions.{other_kind}
use Rattle.tape.proofs.Declared.{over_at_end}

-- where the loop that o opened is over, of which d more are open at record i
pub record Past (t : List ℕ) (d i : ℕ) (known : List Known) (slots : ℕ) (o : Open) (os : List Open) : Type 0 where
  pub place : ℕ
  pub is : drop place (code_of t) ≡ past d (drop i (code_of t))
  pub within : place ≤ records t
  pub further : i < place
  pub due_there : (scan_at t place).due ≡ a_body
  pub known_there : (scan_at t place).known ≡ known
  pub slots_there : (scan_at t place).slots ≡ slots
  pub scope_there : (scan_at t place).body.scope ≡ o.scope
  pub loops_there : (scan_at t place).body.loops ≡ os
  pub operands_there : (scan_at t place).body.operands ≡ 0

module _ (t : List ℕ) (m : ℕ) (a : Passed t m) (known : List Known) (slots : ℕ) (o : Open) (os : List Open) where
  -- before record i, inside the loop, with these loops in it
  record Inner (i : ℕ) (front : List Open) : Type 0 where
    due_here : (scan_at t i).due ≡ a_body
    known_here : (scan_at t i).known ≡ known
    slots_here : (scan_at t i).slots ≡ slots
    loops_here : (scan_at t i).body.loops ≡ front ++ (o ∷ os)

  in_body_lem : (i : ℕ) (front front₁ : List Open) (x : Instruction) (b : Body) → scan_at t (suc i) ≡ in_body (scan_at t i) b → b.loops ≡ front₁ ++ (o ∷ os)
      → Inner i front → Inner (suc i) front₁
  unfolding in_body
  in_body_lem i front front₁ x b e l h =
      record {
        due_here = ap (λ (s : Scan). s.due) e ∙ h.due_here;
        known_here = ap (λ (s : Scan). s.known) e ∙ h.known_here;
        slots_here = ap (λ (s : Scan). s.slots) e ∙ h.slots_here;
        loops_here = ap (λ (s : Scan). s.body.loops) e ∙ l;
      }

  -- one record further
  later : (d e i : ℕ) → past e (drop i (code_of t)) ≡ past d (drop (suc i) (code_of t)) → Past t d (suc i) known slots o os → Past t e i known slots o os
  later d e i q p =
      record {
        place = p.place;
        is = p.is ∙ sym q;
        within = p.within;
        further = let l = p.further in omega arith;
        due_there = p.due_there;
        known_there = p.known_there;
        slots_there = p.slots_there;
        scope_there = p.scope_there;
        loops_there = p.loops_there;
        operands_there = p.operands_there;
      }

  -- what is to be shown of record i, if it says x
  Step : ℕ → List Open → Instruction → Type 0
  Step i front x = scan_at t (suc i) ≡ next (scan_at t i) i x → drop i (code_of t) ≡ x ∷ drop (suc i) (code_of t) → Asks (scan_at t i) x
      → same (record_at t i) (write x) ≡ true → ((front₁ : List Open) → Inner (suc i) front₁ → Past t (length front₁) (suc i) known slots o os)
      → Past t (length front) i known slots o os

  -- a record that leaves the loops alone
  straight : (i : ℕ) (front : List Open) (x : Instruction) (b : Body) → Inner i front → next (scan_at t i) i x ≡ in_body (scan_at t i) b
      → b.loops ≡ (scan_at t i).body.loops → ((d : ℕ) (c : Code) → past d (x ∷ c) ≡ past d c) → Step i front x
  unfolding Step
  straight i front x b h q l p e code k u on =
      later (length front) (length front) i (ap (past (length front)) code ∙ p (length front) _) (on front (in_body_lem i front front x b (e ∙ q) (l ∙ h.loops_here) h))

  opening : (i : ℕ) (front : List Open) (x q r : ℕ) → Inner i front → Step i front (for x q r)
  unfolding Step past next opens
  opening i front x q r h e code k u on =
      let b = (scan_at t i).body in
      let new : Open = record { passes = r - q; scope = b.scope; steps = b.steps } in
      later (suc (length front)) (length front) i (ap (past (length front)) code) (on (new ∷ front) (in_body_lem i front (new ∷ front) (for x q r) _ e (ap (λ (z : List Open). new ∷ z) h.loops_here) h))

  closing : (i : ℕ) (front : List Open) → i < records t → Inner i front → Step i front end
  unfolding Step past next closes close_by in_body
  closing i [] l h e code k u on =
      let r = e ∙ ap (λ (z : List Open). in_body (scan_at t i) (close_by (scan_at t i).body z)) h.loops_here in
      record {
        place = suc i;
        is = sym (ap (past 0) code);
        within = l;
        further = omega arith;
        due_there = ap (λ (s : Scan). s.due) r ∙ h.due_here;
        known_there = ap (λ (s : Scan). s.known) r ∙ h.known_here;
        slots_there = ap (λ (s : Scan). s.slots) r ∙ h.slots_here;
        scope_there = ap (λ (s : Scan). s.body.scope) r;
        loops_there = ap (λ (s : Scan). s.body.loops) r;
        operands_there = ap (λ (s : Scan). s.body.operands) r;
      }
  closing i (f ∷ front) l h e code k u on =
      let r = e ∙ ap (λ (z : List Open). in_body (scan_at t i) (close_by (scan_at t i).body z)) h.loops_here in
      later (length front) (suc (length front)) i (ap (past (suc (length front))) code) (on front (in_body_lem i (f ∷ front) front end _ r refl h))

  -- no RET stands in a loop, and no record of another class in a body
  not_returning : (i : ℕ) (front : List Open) (x : ℕ) → Inner i front → Step i front (ret x)
  unfolding Step asks
  not_returning i front x h e code k u on =
      let n = eqb-true (length (scan_at t i).body.loops) 0 k.loops in
      let w = ap length h.loops_here in
      let v = length-append front (o ∷ os) in
      absurd (omega arith)

  elsewhere : (i : ℕ) (front : List Open) → i < records t → Inner i front → (10 ≤ (record_at t i).kind → ⊥) → ⊥
  unfolding due
  elsewhere i front l h low =
      let c = a.faultless i l in
      let q = sym (ap (λ (z : Due). due z (record_at t i).kind) h.due_here) ∙ c.kind in
      low (leb-true 10 _ (and_parts (leb 10 (record_at t i).kind) (leb (record_at t i).kind 21) q).0)

  one : (i : ℕ) (front : List Open) → i < records t → Inner i front → Step i front (read (record_at t i))
  unfolding Step next past
  one i front l h =
      let x = record_at t i in
      by_kind (Step i front) x
      (record {
        on_program = λ e. absurd (elsewhere i front l h (λ q. omega arith));
        on_array = λ e. absurd (elsewhere i front l h (λ q. omega arith));
        on_cfunc = λ e. absurd (elsewhere i front l h (λ q. omega arith));
        on_lit = λ e. straight i front _ (leaves (scan_at t i).body 0 0) h refl (unfold leaves in refl) (λ d c. refl);
        on_var = λ e. straight i front _ (leaves (scan_at t i).body 0 1) h refl (unfold leaves in refl) (λ d c. refl);
        on_get = λ e. straight i front _ (leaves (scan_at t i).body 1 1) h refl (unfold leaves in refl) (λ d c. refl);
        on_not = λ e. straight i front _ (leaves (scan_at t i).body 1 1) h refl (unfold leaves in refl) (λ d c. refl);
        on_bin = λ e. straight i front _ (leaves (scan_at t i).body 2 1) h refl (unfold leaves in refl) (λ d c. refl);
        on_call = λ e. straight i front _ (leaves (scan_at t i).body _ _) h refl (unfold leaves in refl) (λ d c. refl);
        on_def = λ e. straight i front _ (states (scan_at t i).body _) h refl (unfold states in refl) (λ d c. refl);
        on_set = λ e. straight i front _ (states (scan_at t i).body _) h refl (unfold states in refl) (λ d c. refl);
        on_put = λ e. straight i front _ (states (scan_at t i).body _) h refl (unfold states in refl) (λ d c. refl);
        on_for = λ e. opening i front x.p x.q x.r h;
        on_end = λ e. closing i front l h;
        on_ret = λ e. not_returning i front x.p h;
        on_other = λ e code k u on. absurd (elsewhere i front l h (λ q. let z = other_kind x u in omega arith));
      })

  skip : (n i : ℕ) (front : List Open) → i + n ≡ records t → Inner i front → Past t (length front) i known slots o os
  unfolding scan_at Step
  skip zero i front l h =
      let q : i ≡ records t = omega arith in
      let z : a_body ≡ nothing = sym h.due_here ∙ ap (λ (j : ℕ). (scan_at t j).due) q ∙ over_at_end t m a in
      absurd (let c : ◌≡◌ {A = ℕ} 0 1 = cc in omega arith)
  skip (suc n) i front l h =
      let d : i < records t = omega arith in
      let c = a.faultless i d in
      one i front d h refl (code_from t i d) (record { range = c.range; loops = c.loops; operands = c.operands; slot = c.slot }) c.unused
      (λ front₁ k. skip n (suc i) front₁ (omega arith) k)

-- past the loop whose FOR is record i
pub past_loop : (t : List ℕ) (m : ℕ) → Passed t m → (i x q r : ℕ) → i < records t → (scan_at t i).due ≡ a_body → read (record_at t i) ≡ for x q r
    → Past t 0 (suc i) (scan_at t i).known (scan_at t i).slots
    (record { passes = r - q; scope = (scan_at t i).body.scope; steps = (scan_at t i).body.steps }) (scan_at t i).body.loops
unfolding scan_at next opens in_body
past_loop t m a i x q r l d e =
    let s = scan_at t i in
    let f = ap (next s i) e in
    skip t m a s.known s.slots _ s.body.loops (records t - suc i) (suc i) [] (omega arith)
    (record {
      due_here = ap (λ (z : Scan). z.due) f ∙ d;
      known_here = ap (λ (z : Scan). z.known) f;
      slots_here = ap (λ (z : Scan). z.slots) f;
      loops_here = ap (λ (z : Scan). z.body.loops) f;
    })
