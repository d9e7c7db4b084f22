-- The scan of the tape of a tree: over a sound tree within the limits it goes on without a fault, to the state that the tree tells. Assumes nothing.
use mathlib.Core.Path.{◌≡◌, refl, sym, ap, subst₂, ◌∙◌}
use mathlib.Core.Bool.{true, and-eq-true_iff}
use mathlib.Core.List.{List, ◌∷◌, map}
use Prim.Native.Nat.{ℕ, suc, ◌+◌, ◌-◌, ◌*◌, ◌≤◌}
use native.Mathlib.Nat.{zero-add}
use native.Mathlib.Omega.{arith}
use borrow.Author.Tests.{lt-ltb, le-leb}
use lib.ListN.{length, get_or}
use Rattle.word.specs.Code.{code}
use Rattle.word.specs.Slots.{upd, fixed, Scope}
use Rattle.word.proofs.Laws.{code_range}
use Rattle.word.proofs.Records.{same_self}
use Rattle.tape.specs.Core.{CExpr, LIT, VAR, GET, NOT, BIN, CALL, CExprs, NONE, MORE, CStmt, SKIP, ◌⨾◌, DEF, SET, PUT, FOR}
use Rattle.tape.specs.Instruction.{Instruction, Code, lit, var, get, not, bin, call, def, set, put, for, end, write}
use Rattle.tape.specs.Tape.{tape_e, tape_es, tape_s}
use Rattle.tape.specs.Steps.{steps_e, steps_es, steps_s}
use Rattle.tape.specs.Scan.{Due, a_body, Open, Body, Scan, leaves, states, opens, close_by, closes, in_body, next}
use Rattle.tape.specs.Faults.{due, more, asks, unless, unmet, fault}
use Rattle.tape.specs.Check.{judge, scan}
use Rattle.tape.proofs.Written.{read_write}
use Rattle.tape.proofs.Sound.{arguments, after_s, SoundE, SoundEs, SoundS}
use Rattle.tape.proofs.Limits.{some_height, height_e, height_es, FitsE, FitsEs, FitsS}
use Rattle.tape.proofs.Knowing.{unknown, Knows, knows_steps}
use Rattle.tape.proofs.Asked.{Met, takes_iff, just_iff}

-- a record without a fault
pub goes_on : (s : Scan) (at : ℕ) (i : Instruction) (c : Code) → more s.due ≡ true → due s.due (write i).kind ≡ true → Met s i
    → scan s at (map write (i ∷ c)) ≡ scan (next s at i) (at + 1) (map write c)
unfolding scan judge fault unmet unless
goes_on s at i c n d m = rw (read_write i, n, d, same_self (write i), m.range, m.loops, m.operands, m.slot) refl

abbrev pub body_of : Scope → ℕ → ℕ → List Open → Body
body_of D operands steps loops = record { scope = D; operands = operands; steps = steps; loops = loops }

-- in a function of the state s, the scan comes from the code c in the body b to the code c₁ in the body b₁
pub record Scans (s : Scan) (b : Body) (c : Code) (b₁ : Body) (c₁ : Code) : Type 0 where
  pub scans : (at : ℕ) → (at₁ : ℕ) × (scan (in_body s b) at (map write c) ≡ scan (in_body s b₁) at₁ (map write c₁))

module _ {s : Scan} where
  stay : {b : Body} {c : Code} → Scans s b c b c
  stay = record { scans = λ at. (at, refl) }

  on : {b b₁ b₂ : Body} {c c₁ c₂ : Code} → Scans s b c b₁ c₁ → Scans s b₁ c₁ b₂ c₂ → Scans s b c b₂ c₂
  on p q = record { scans = λ at. let (at₁, e) = p.scans at in let (at₂, f) = q.scans at₁ in (at₂, e ∙ f) }

  -- the same operands and steps, counted another way
  alike : {b : Body} {c c₁ : Code} {D : Scope} {n n₁ m m₁ : ℕ} {os : List Open} → Scans s b c (body_of D n m os) c₁ → n ≡ n₁ → m ≡ m₁
      → Scans s b c (body_of D n₁ m₁ os) c₁
  alike {b} {c} {c₁} {D} {os} p e f =
      subst₂ (λ (o z : ℕ). Scans s b c (body_of D o z os) c₁) e f p

-- in a body, after functions with these parameters and steps
module _ (s : Scan) (d : s.due ≡ a_body) (π : ℕ → ℕ) (steps : List ℕ) (knows : Knows s.known π steps) where
  abbrev pub κ : ℕ → ℕ
  κ f = get_or steps f 0

  one : (i : Instruction) {b b₁ : Body} {c : Code} → ((at : ℕ) → next (in_body s b) at i ≡ in_body s b₁) → due a_body (write i).kind ≡ true
      → Met (in_body s b) i → Scans s b (i ∷ c) b₁ c
  unfolding in_body more
  one i {b} {b₁} {c} n k m =
      record {
        scans =
            λ at. (
              at + 1,
              goes_on (in_body s b) at i c (ap more d) (ap (λ (w : Due). due w (write i).kind) d ∙ k) m
                  ∙ ap (λ (s₁ : Scan). scan s₁ (at + 1) (map write c)) (n at),
            );
      }

  mutual
    unfolding tape_e steps_e arguments SoundE FitsE height_e next asks due write in_body leaves

    e_scans : (e : CExpr) (D : Scope) (n m : ℕ) (os : List Open) (c : Code) → SoundE π (length s.known) D e → FitsE s.slots s.arrays e
        → n + height_e e ≤ 128 → Scans s (body_of D n m os) (tape_e e c) (body_of D (suc n) (m + steps_e κ e) os) c
    e_scans (LIT v) D n m os c h f l =
        let t = (takes_iff 0 (in_body s (body_of D n m os))).1 (omega arith, omega arith) in
        alike (one (lit v) (λ at. refl) refl (record { range = refl; loops = refl; operands = t; slot = refl })) (omega arith) refl
    e_scans (VAR x) D n m os c h f l =
        let t = (takes_iff 0 (in_body s (body_of D n m os))).1 (omega arith, omega arith) in
        alike (one (var x) (λ at. refl) refl (record { range = lt-ltb x s.slots f; loops = refl; operands = t; slot = h })) (omega arith) refl
    e_scans (GET a i) D n m os c h f l =
        let t = (takes_iff 1 (in_body s (body_of D (suc n) (m + steps_e κ i) os))).1 (omega arith, omega (arith, some_height i)) in
        on (e_scans i D n m os (get a ∷ c) h f.1 l)
        (alike (one (get a) (λ at. refl) refl (record { range = lt-ltb a s.arrays f.0; loops = refl; operands = t; slot = refl }))
        (omega arith) (omega arith))
    e_scans (NOT e) D n m os c h f l =
        let t = (takes_iff 1 (in_body s (body_of D (suc n) (m + steps_e κ e) os))).1 (omega arith, omega (arith, some_height e)) in
        on (e_scans e D n m os (not ∷ c) h f l)
        (alike (one not (λ at. refl) refl (record { range = refl; loops = refl; operands = t; slot = refl })) (omega arith) (omega arith))
    e_scans (BIN o a b) D n m os c h f l =
        let t = (takes_iff 2 (in_body s (body_of D (suc (suc n)) (m + steps_e κ a + steps_e κ b) os))).1 (omega arith, omega (arith, some_height a)) in
        let range = (and-eq-true_iff _ _).1 (le-leb 1 (code o) (code_range o).0, le-leb (code o) 13 f.0) in
        on (e_scans a D n m os _ h.0 f.1 (omega arith))
        (on (e_scans b D (suc n) (m + steps_e κ a) os _ h.1 f.2 (omega arith))
        (alike (one (bin (code o)) (λ at. refl) refl (record { range = range; loops = refl; operands = t; slot = refl })) (omega arith) (omega arith)))
    e_scans (CALL g es) D n m os c h f l =
        let p = knows.params g h.0 in
        let k = knows_steps knows g in
        let q : (get_or s.known g unknown).params ≡ arguments es = p ∙ sym h.1 in
        let t = (takes_iff (get_or s.known g unknown).params (in_body s (body_of D (n + arguments es) (m + steps_es κ es) os))).1 (omega arith, omega arith) in
        let range = lt-ltb g (length s.known) h.0 in
        on (es_scans es D n m os _ h.2 f (omega arith))
        (alike (one (call g) (λ at. refl) refl (record { range = range; loops = refl; operands = t; slot = refl })) (omega arith) (omega arith))

    es_scans : (es : CExprs) (D : Scope) (n m : ℕ) (os : List Open) (c : Code) → SoundEs π (length s.known) D es → FitsEs s.slots s.arrays es
        → n + height_es es ≤ 128 → Scans s (body_of D n m os) (tape_es es c) (body_of D (n + arguments es) (m + steps_es κ es) os) c
    es_scans NONE D n m os c h f l = alike stay (omega arith) (omega arith)
    es_scans (MORE e es) D n m os c h f l =
        on (e_scans e D n m os _ h.0 f.0 (omega arith))
        (alike (es_scans es D (suc n) (m + steps_e κ e) os c h.1 f.1 (omega arith)) (omega arith) (omega arith))

  pub s_scans : (t : CStmt) (D : Scope) (m : ℕ) (os : List Open) (c : Code) → SoundS π (length s.known) D t → FitsS s.slots s.arrays (length os) t
      → Scans s (body_of D 0 m os) (tape_s t c) (body_of (after_s D t) 0 (m + steps_s κ t) os) c
  unfolding tape_s steps_s after_s SoundS FitsS next asks due write in_body states opens closes close_by
  s_scans SKIP D m os c h f = alike stay refl (omega arith)
  s_scans (t ⨾ u) D m os c h f =
      on (s_scans t D m os _ h.0 f.0)
      (alike (s_scans u (after_s D t) (m + steps_s κ t) os c h.1 f.1) refl (omega arith))
  s_scans (DEF x e) D m os c h f =
      let w = (just_iff 1 (in_body s (body_of D 1 (m + steps_e κ e) os))).1 refl in
      on (e_scans e D 0 m os _ h.1 f.2 (omega (arith, f.1)))
      (alike (one (def x) (λ at. refl) refl (record { range = lt-ltb x s.slots f.0; loops = refl; operands = w; slot = h.0 })) refl (omega arith))
  s_scans (SET x e) D m os c h f =
      let w = (just_iff 1 (in_body s (body_of D 1 (m + steps_e κ e) os))).1 refl in
      on (e_scans e D 0 m os _ h.1 f.2 (omega (arith, f.1)))
      (alike (one (set x) (λ at. refl) refl (record { range = lt-ltb x s.slots f.0; loops = refl; operands = w; slot = h.0 })) refl (omega arith))
  s_scans (PUT a i e) D m os c h f =
      let w = (just_iff 2 (in_body s (body_of D 2 (m + steps_e κ i + steps_e κ e) os))).1 refl in
      on (e_scans i D 0 m os _ h.0 f.2 (omega (arith, f.1)))
      (on (e_scans e D 1 (m + steps_e κ i) os _ h.1 f.3 (omega (arith, f.1)))
      (alike (one (put a) (λ at. refl) refl (record { range = lt-ltb a s.arrays f.0; loops = refl; operands = w; slot = refl })) refl (omega arith)))
  s_scans (FOR x q r t) D m os c h f =
      let o : Open = record { passes = r - q; scope = D; steps = m } in
      let range = (and-eq-true_iff _ _).1 (lt-ltb x s.slots f.0, le-leb q r h.0) in
      let w = (just_iff 0 (in_body s (body_of D 0 m os))).1 refl in
      let v = (just_iff 0 (in_body s (body_of (after_s (upd D x fixed) t) 0 (0 + steps_s κ t) (o ∷ os)))).1 refl in
      on (one (for x q r) (λ at. refl) refl (record { range = range; loops = lt-ltb (length os) 8 f.1; operands = w; slot = h.1 }))
      (on (s_scans t (upd D x fixed) 0 (o ∷ os) _ h.2 f.2)
      (alike (one end (λ at. refl) refl (record { range = refl; loops = lt-ltb 0 (suc (length os)) (omega arith); operands = v; slot = refl })) refl
      (ap (λ (n : ℕ). m + (r - q) * suc n) (zero-add (steps_s κ t)))))
