-- The body of a function on a tape that is read half: its trees so far. An open loop keeps the statement before it and its FOR; then come the statement
-- of the innermost body and the operands that wait. What the scan keeps of a body is theirs, and each record takes them to the next.
-- Assumes nothing.
use mathlib.Core.Path.{◌≡◌, refl, sym, ap, subst, ◌∙◌}
use mathlib.Core.Bool.{true}
use mathlib.Core.List.{List, [], ◌∷◌}
use Prim.Native.Nat.{ℕ, suc, ◌+◌, ◌-◌, ◌*◌, ◌≤◌, ◌<◌}
use native.Mathlib.Omega.{arith}
use lib.ListN.{length}
use Rattle.word.specs.Slots.{upd, fixed, Scope, begin}
use Rattle.tape.specs.Core.{CExpr, CStmt, SKIP, ◌⨾◌, FOR}
use Rattle.tape.specs.Instruction.{Instruction, Code, for, end}
use Rattle.tape.specs.Tape.{tape_s}
use Rattle.tape.specs.Steps.{steps_s}
use Rattle.tape.specs.Scan.{Open, Body, leaves, states, opens, close_by, closes}
use Rattle.tape.specs.Faults.{unnamed}
use Rattle.tape.proofs.Sound.{after_s, SoundS}
use Rattle.tape.proofs.Limits.{FitsS}
use Rattle.tape.proofs.Waiting.{stack_tape, stack_steps, Setting, Waits, empty, Pushed, Stated}

pub record Level : Type 0 where
  pub before : CStmt
  pub slot : ℕ
  pub low : ℕ
  pub high : ℕ

-- the records up to the innermost body, before those of c
unfoldable pub levels_tape : List Level → Code → Code
levels_tape [] c = c
levels_tape (l ∷ ls) c = levels_tape ls (tape_s l.before (for l.slot l.low l.high ∷ c))

module _ (W : Setting) where
  -- the open loops, what the scan keeps of them, and the scope in which the innermost body begins
  pub data Nested : List Level → List Open → Scope → Type 0 where
    outermost : Nested [] [] (begin W.params)
    within : {ls : List Level} {os : List Open} {D : Scope} → Nested ls os D → (s : CStmt) (x q r : ℕ) → SoundS W.π W.k D s
        → FitsS W.slots W.arrays (length ls) s → x < W.slots → length ls < 8 → q ≤ r → unnamed (after_s D s x) ≡ true
        → Nested (record { before = s; slot = x; low = q; high = r } ∷ ls)
        (record { passes = r - q; scope = after_s D s; steps = steps_s W.κ s } ∷ os) (upd (after_s D s) x fixed)

  -- END makes the innermost loop, whose body is t, a statement of the body round it
  record Ended (ls : List Level) (os : List Open) (t : CStmt) : Type 0 where
    outer : List Level
    loop : Open
    loops : List Open
    begins : Scope
    body : CStmt
    opened : os ≡ loop ∷ loops
    nested : Nested outer loops begins
    sound : SoundS W.π W.k begins body
    fits : FitsS W.slots W.arrays (length outer) body
    scope : loop.scope ≡ after_s begins body
    steps : loop.steps + loop.passes * suc (steps_s W.κ t) ≡ steps_s W.κ body
    is : (rest : Code) → levels_tape outer (tape_s body rest) ≡ levels_tape ls (tape_s t (end ∷ rest))

  pub record Half (b : Body) : Type 0 where
    pub levels : List Level
    pub begins : Scope
    pub body : CStmt
    pub stack : List CExpr
    pub nested : Nested levels b.loops begins
    pub sound : SoundS W.π W.k begins body
    pub fits : FitsS W.slots W.arrays (length levels) body
    pub waits : Waits W (after_s begins body) stack
    pub scope : b.scope ≡ after_s begins body
    pub operands : b.operands ≡ length stack
    pub steps : b.steps ≡ steps_s W.κ body + stack_steps W.κ stack

module _ {W : Setting} where
  nested_count : {ls : List Level} {os : List Open} {D : Scope} → Nested W ls os D → length ls ≡ length os
  nested_count outermost = refl
  nested_count (within n s x q r h f l d o u) = ap suc (nested_count n)

  pub outside : {ls : List Level} {os : List Open} {D : Scope} → Nested W ls os D → length os ≡ 0 → (ls ≡ []) × (D ≡ begin W.params)
  outside outermost e = (refl, refl)
  outside (within n s x q r h f l d o u) e = absurd (omega arith)

  ended : {ls : List Level} {os : List Open} {D : Scope} → Nested W ls os D → 0 < length os → (t : CStmt) → SoundS W.π W.k D t
      → FitsS W.slots W.arrays (length ls) t → Ended W ls os t
  unfolding levels_tape tape_s steps_s SoundS FitsS after_s
  ended outermost k t h f = absurd (omega arith)
  ended (within {ls} {os} {D} n s x q r h₁ f₁ l d o u) k t h f =
      record {
        outer = ls;
        loop = record { passes = r - q; scope = after_s D s; steps = steps_s W.κ s };
        loops = os;
        begins = D;
        body = s ⨾ FOR x q r t;
        opened = refl;
        nested = n;
        sound = (h₁, (o, u, h));
        fits = (f₁, (l, d, f));
        scope = refl;
        steps = refl;
        is = λ rest. refl;
      }

unfoldable pub half_tape : {W : Setting} {b : Body} → Half W b → Code → Code
half_tape h c = levels_tape h.levels (tape_s h.body (stack_tape h.stack c))

-- the trees after record i
pub record Onward {W : Setting} {b : Body} (h : Half W b) (i : Instruction) (b₁ : Body) : Type 0 where
  pub half : Half W b₁
  pub is : (rest : Code) → half_tape half rest ≡ half_tape h (i ∷ rest)

module _ {W : Setting} {b : Body} (h : Half W b) where
  -- an expression's record
  pub pushed : {i : Instruction} {n c : ℕ} → Pushed W (after_s h.begins h.body) h.stack i n c → Onward h i (leaves b n c)
  unfolding leaves half_tape
  pushed {n} p =
      record {
        half =
            record {
              levels = h.levels;
              begins = h.begins;
              body = h.body;
              stack = p.now;
              nested = h.nested;
              sound = h.sound;
              fits = h.fits;
              waits = p.waits;
              scope = h.scope;
              operands = ap (λ (k : ℕ). suc (k - n)) h.operands ∙ sym p.many;
              steps = omega (arith, h.steps, p.steps);
            };
        is = λ rest. ap (λ (c : Code). levels_tape h.levels (tape_s h.body c)) (p.is rest);
      }

  -- a statement's: its statement follows what the innermost body has
  pub stated : {i : Instruction} {D D₁ : Scope} → Stated W (after_s h.begins h.body) h.stack i (length h.levels) D → D₁ ≡ D
      → Onward h i (states b D₁)
  unfolding states half_tape tape_s stack_tape steps_s stack_steps SoundS FitsS after_s
  stated p e =
      record {
        half =
            record {
              levels = h.levels;
              begins = h.begins;
              body = h.body ⨾ p.now;
              stack = [];
              nested = h.nested;
              sound = (h.sound, p.sound);
              fits = (h.fits, p.fits);
              waits = empty;
              scope = e ∙ sym p.scope;
              operands = refl;
              steps = omega (arith, h.steps, p.steps);
            };
        is = λ rest. ap (λ (c : Code). levels_tape h.levels (tape_s h.body c)) (p.is rest);
      }

  -- where nothing waits
  module _ (nothing : h.stack ≡ []) where
    pub whole_steps : b.steps ≡ steps_s W.κ h.body
    unfolding stack_steps
    whole_steps = omega (arith, h.steps, ap (stack_steps W.κ) nothing)

    -- FOR opens a body
    pub opened : (x q r : ℕ) → x < W.slots → length b.loops < 8 → q ≤ r → unnamed (b.scope x) ≡ true → Onward h (for x q r) (opens b x (r - q))
    unfolding opens half_tape levels_tape tape_s stack_tape steps_s stack_steps SoundS FitsS after_s
    opened x q r l d o u =
        let deep : length h.levels < 8 = omega (arith, nested_count h.nested) in
        record {
          half =
              record {
                levels = record { before = h.body; slot = x; low = q; high = r } ∷ h.levels;
                begins = upd (after_s h.begins h.body) x fixed;
                body = SKIP;
                stack = [];
                nested = rw (h.scope, whole_steps) (within h.nested h.body x q r h.sound h.fits l deep o (rw h.scope at u));
                sound = tt;
                fits = tt;
                waits = empty;
                scope = ap (λ (D : Scope). upd D x fixed) h.scope;
                operands = refl;
                steps = refl;
              };
          is = λ rest. rw nothing refl;
        }

    -- END closes it
    closed_by : (e : Ended W h.levels b.loops h.body) → Onward h end (close_by b (e.loop ∷ e.loops))
    unfolding close_by half_tape stack_tape stack_steps
    closed_by e =
        record {
          half =
              record {
                levels = e.outer;
                begins = e.begins;
                body = e.body;
                stack = [];
                nested = e.nested;
                sound = e.sound;
                fits = e.fits;
                waits = empty;
                scope = e.scope;
                operands = refl;
                steps = ap (λ (n : ℕ). e.loop.steps + e.loop.passes * suc n) whole_steps ∙ omega (arith, e.steps);
              };
          is = λ rest. rw nothing (e.is rest);
        }

    pub closed : 0 < length b.loops → Onward h end (closes b)
    unfolding closes
    closed d =
        let e = ended h.nested d h.body h.sound h.fits in
        subst (λ (os : List Open). Onward h end (close_by b os)) (sym e.opened) (closed_by e)
