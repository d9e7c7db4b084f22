-- The operands that wait on a tape that is read half, as expressions, the latest first: each record of an expression makes one of those that it takes,
-- each record of a statement makes a statement of all. Assumes nothing.
use mathlib.Core.Path.{◌≡◌, refl}
use mathlib.Core.Bool.{true}
use mathlib.Core.List.{List, [], ◌∷◌}
use Prim.Native.Nat.{ℕ, zero, suc, ◌+◌, ◌-◌, ◌≤◌, ◌<◌}
use native.Mathlib.Omega.{arith}
use lib.ListN.{length}
use Rattle.word.specs.Code.{code}
use Rattle.word.specs.Value.{Op}
use Rattle.word.specs.Slots.{upd, defined, Scope}
use Rattle.tape.specs.Core.{CExpr, LIT, VAR, GET, NOT, BIN, CALL, CExprs, NONE, MORE, CStmt, DEF, SET, PUT}
use Rattle.tape.specs.Instruction.{Instruction, Code, lit, var, get, not, bin, call, def, set, put}
use Rattle.tape.specs.Tape.{tape_e, tape_es, tape_s}
use Rattle.tape.specs.Steps.{steps_e, steps_es, steps_s}
use Rattle.tape.specs.Faults.{readable, settable, definable}
use Rattle.tape.proofs.Sound.{arguments, after_s, SoundE, SoundEs, SoundS}
use Rattle.tape.proofs.Limits.{some_height, height_e, height_es, FitsE, FitsEs, FitsS}

-- their records, before those of c
unfoldable pub stack_tape : List CExpr → Code → Code
stack_tape [] c = c
stack_tape (e ∷ es) c = stack_tape es (tape_e e c)

unfoldable pub stack_steps : (ℕ → ℕ) → List CExpr → ℕ
stack_steps κ [] = 0
stack_steps κ (e ∷ es) = stack_steps κ es + steps_e κ e

-- where a body stands: after k functions, of which f has π f parameters and takes κ f steps, in one with so many parameters and slots, of a program
-- with so many arrays
pub record Setting : Type 0 where
  pub π : ℕ → ℕ
  pub κ : ℕ → ℕ
  pub k : ℕ
  pub params : ℕ
  pub slots : ℕ
  pub arrays : ℕ

-- where D says what is visible
module _ (W : Setting) (D : Scope) where
  pub data Waits : List CExpr → Type 0 where
    empty : Waits []
    atop : {es : List CExpr} → Waits es → (e : CExpr) → SoundE W.π W.k D e → FitsE W.slots W.arrays e → length es + height_e e ≤ 128
        → Waits (e ∷ es)

  -- an expression's record takes n operands and counts c steps: the operands after it
  pub record Pushed (st : List CExpr) (i : Instruction) (n c : ℕ) : Type 0 where
    pub now : List CExpr
    pub many : length now ≡ suc (length st - n)
    pub is : (rest : Code) → stack_tape now rest ≡ stack_tape st (i ∷ rest)
    pub steps : stack_steps W.κ now ≡ stack_steps W.κ st + c
    pub waits : Waits now

  -- a statement's record takes all operands: the statement, under so many loops, and what is visible after it
  pub record Stated (st : List CExpr) (i : Instruction) (loops : ℕ) (D₁ : Scope) : Type 0 where
    pub now : CStmt
    pub is : (rest : Code) → tape_s now rest ≡ stack_tape st (i ∷ rest)
    pub steps : steps_s W.κ now ≡ suc (stack_steps W.κ st)
    pub sound : SoundS W.π W.k D now
    pub fits : FitsS W.slots W.arrays loops now
    pub scope : after_s D now ≡ D₁

  -- the k latest operands, as arguments before those in `es`
  record Taken (k : ℕ) (st : List CExpr) (es : CExprs) : Type 0 where
    left : List CExpr
    args : CExprs
    count : k + length left ≡ length st
    is : (rest : Code) → stack_tape left (tape_es args rest) ≡ stack_tape st (tape_es es rest)
    steps : stack_steps W.κ left + steps_es W.κ args ≡ stack_steps W.κ st + steps_es W.κ es
    many : arguments args ≡ k + arguments es
    sound : SoundEs W.π W.k D args
    fits : FitsEs W.slots W.arrays args
    height : length left + height_es args ≤ 128
    waits : Waits left

module _ {W : Setting} {D : Scope} where
  waits_few : {st : List CExpr} → Waits W D st → length st ≤ 128
  waits_few empty = omega arith
  waits_few (atop w e s f t) = omega (arith, some_height e)

  pub lit_pushed : (v : ℕ) {st : List CExpr} → Waits W D st → suc (length st - 0) ≤ 128 → Pushed W D st (lit v) 0 0
  unfolding stack_tape tape_e stack_steps steps_e SoundE FitsE height_e
  lit_pushed v {st} w h = record { now = LIT v ∷ st; many = omega arith; is = λ rest. refl; steps = refl; waits = atop w (LIT v) tt tt (omega arith) }

  pub var_pushed : (x : ℕ) {st : List CExpr} → Waits W D st → suc (length st - 0) ≤ 128 → x < W.slots → readable (D x) ≡ true
      → Pushed W D st (var x) 0 1
  unfolding stack_tape tape_e stack_steps steps_e SoundE FitsE height_e
  var_pushed x {st} w h l r = record { now = VAR x ∷ st; many = omega arith; is = λ rest. refl; steps = refl; waits = atop w (VAR x) r l (omega arith) }

  pub get_pushed : (a : ℕ) {st : List CExpr} → Waits W D st → 1 ≤ length st → a < W.arrays → Pushed W D st (get a) 1 1
  unfolding stack_tape tape_e stack_steps steps_e SoundE FitsE height_e
  get_pushed a empty h l = absurd (omega arith)
  get_pushed a (atop {es} w e s f t) h l =
      record { now = GET a e ∷ es; many = omega arith; is = λ rest. refl; steps = omega arith; waits = atop w (GET a e) s (l, f) t }

  pub not_pushed : {st : List CExpr} → Waits W D st → 1 ≤ length st → Pushed W D st not 1 1
  unfolding stack_tape tape_e stack_steps steps_e SoundE FitsE height_e
  not_pushed empty h = absurd (omega arith)
  not_pushed (atop {es} w e s f t) h =
      record { now = NOT e ∷ es; many = omega arith; is = λ rest. refl; steps = omega arith; waits = atop w (NOT e) s f t }

  pub bin_pushed : (o : Op) {st : List CExpr} → Waits W D st → 2 ≤ length st → code o ≤ 13 → Pushed W D st (bin (code o)) 2 1
  unfolding stack_tape tape_e stack_steps steps_e SoundE FitsE height_e
  bin_pushed o empty h l = absurd (omega arith)
  bin_pushed o (atop empty e s f t) h l = absurd (omega arith)
  bin_pushed o (atop (atop {es} w e₁ s₁ f₁ t₁) e s f t) h l =
      record {
        now = BIN o e₁ e ∷ es;
        many = omega arith;
        is = λ rest. refl;
        steps = omega arith;
        waits = atop w (BIN o e₁ e) (s₁, s) (l, f₁, f) (omega arith);
      }

  take : (k : ℕ) {st : List CExpr} (es : CExprs) → Waits W D st → k ≤ length st → SoundEs W.π W.k D es → FitsEs W.slots W.arrays es
      → length st + height_es es ≤ 128 → Taken W D k st es
  unfolding stack_tape tape_es stack_steps steps_es arguments SoundEs FitsEs height_es
  take zero {st} es w h s f t =
      record { left = st; args = es; count = omega arith; is = λ rest. refl; steps = refl; many = omega arith; sound = s; fits = f; height = t; waits = w }
  take (suc k) es empty h s f t = absurd (omega arith)
  take (suc k) es (atop w e s₁ f₁ t₁) h s f t =
      let r = take k (MORE e es) w (omega arith) (s₁, s) (f₁, f) (omega arith) in
      record {
        left = r.left;
        args = r.args;
        count = omega (arith, r.count);
        is = r.is;
        steps = omega (arith, r.steps);
        many = omega (arith, r.many);
        sound = r.sound;
        fits = r.fits;
        height = r.height;
        waits = r.waits;
      }

  pub call_pushed : (f : ℕ) {st : List CExpr} → Waits W D st → f < W.k → W.π f ≤ length st → suc (length st - W.π f) ≤ 128
      → Pushed W D st (call f) (W.π f) (suc (W.κ f))
  unfolding stack_tape tape_e stack_steps steps_e arguments SoundE FitsE height_e
  call_pushed f w l h b =
      let r = take (W.π f) NONE w h tt tt (omega (arith, waits_few w)) in
      record {
        now = CALL f r.args ∷ r.left;
        many = omega (arith, r.count);
        is = λ rest. r.is (call f ∷ rest);
        steps = omega (arith, r.steps);
        waits = atop r.waits (CALL f r.args) (l, omega (arith, r.many), r.sound) r.fits (omega (arith, r.height, r.count));
      }

  pub def_stated : (x loops : ℕ) {st : List CExpr} → Waits W D st → length st ≡ 1 → x < W.slots → definable (D x) ≡ true
      → Stated W D st (def x) loops (upd D x defined)
  unfolding stack_tape tape_s stack_steps steps_s SoundS FitsS after_s
  def_stated x loops empty h l d = absurd (omega arith)
  def_stated x loops (atop empty e s f t) h l d =
      record { now = DEF x e; is = λ rest. refl; steps = omega arith; sound = (d, s); fits = (l, omega arith, f); scope = refl }
  def_stated x loops (atop (atop w e₁ s₁ f₁ t₁) e s f t) h l d = absurd (omega arith)

  pub set_stated : (x loops : ℕ) {st : List CExpr} → Waits W D st → length st ≡ 1 → x < W.slots → settable (D x) ≡ true
      → Stated W D st (set x) loops D
  unfolding stack_tape tape_s stack_steps steps_s SoundS FitsS after_s
  set_stated x loops empty h l d = absurd (omega arith)
  set_stated x loops (atop empty e s f t) h l d =
      record { now = SET x e; is = λ rest. refl; steps = omega arith; sound = (d, s); fits = (l, omega arith, f); scope = refl }
  set_stated x loops (atop (atop w e₁ s₁ f₁ t₁) e s f t) h l d = absurd (omega arith)

  pub put_stated : (a loops : ℕ) {st : List CExpr} → Waits W D st → length st ≡ 2 → a < W.arrays → Stated W D st (put a) loops D
  unfolding stack_tape tape_s stack_steps steps_s SoundS FitsS after_s
  put_stated a loops empty h l = absurd (omega arith)
  put_stated a loops (atop empty e s f t) h l = absurd (omega arith)
  put_stated a loops (atop (atop empty i s₁ f₁ t₁) e s f t) h l =
      record { now = PUT a i e; is = λ rest. refl; steps = omega arith; sound = (s₁, s); fits = (l, omega arith, f₁, f); scope = refl }
  put_stated a loops (atop (atop (atop w e₂ s₂ f₂ t₂) i s₁ f₁ t₁) e s f t) h l = absurd (omega arith)

  -- nothing waits
  pub none_waits : {st : List CExpr} → Waits W D st → length st ≡ 0 → st ≡ []
  none_waits empty h = refl
  none_waits (atop w e s f t) h = absurd (omega arith)
