-- Laws of `settle`, `settled` and `stands`, for every tape: a record that counts nothing goes forward, so that settling ends; more fuel changes
-- nothing; steps add up. Assumes nothing.
use mathlib.Core.Path.{◌≡◌, refl, sym, ap, ◌∙◌}
use mathlib.Core.Bool.{Bool, true, false}
use mathlib.Core.List.{List, [], ◌∷◌}
use Prim.Native.Nat.{ℕ, zero, suc, ◌+◌, ◌≤◌, ◌<◌}
use native.Mathlib.Omega.{arith}
use native.Mathlib.Nat.{zero-add, suc-add, le_refl}
use lib.Dec.{ltb}
use lib.ListN.{length}
use Rattle.std.proofs.lemmas.Bool.{false≢true}
use Rattle.word.specs.Slots.{Slots}
use Rattle.tape.specs.Instruction.{Instruction, Code, program, array, cfunc, lit, var, get, not, bin, call, def, set, put, for, end, ret, other}
use Rattle.tape.specs.Entries.{Entry}
use Rattle.tape.specs.Rules.{World, Loop, Frame, Machine, at, halted, stuck, tick, stored, one, two, grab, past, pass, again, ending, back, exec, step, turn_for, turn_end, turn_loops, turn, is_free, quiet, left, settle, settled, stands}
use Rattle.tape.proofs.Tails.{tail_length, past_tail}

pub clash : {A : Type 0} → false ≡ true → A
clash h = absurd (false≢true h)

-- ---- one record
-- the steps counted, where the machine is not stuck
unfoldable pub counter : Machine → ℕ
counter (at c s τ L F w) = w.steps
counter (halted v w) = w.steps
counter stuck = 0

-- after a record: if it counts nothing, further on in the same world, and no more than n records are left; if it counts, at another or done with one
-- step more, or stuck
pub data Moves (n : ℕ) (w : World) : Bool → Machine → Type 0 where
  forward : {c : Code} {s : List ℕ} {τ : Slots} {L : List Loop} {F : List Frame} → length c ≤ n → Moves n w true (at c s τ L F w)
  ticked : {c : Code} {s : List ℕ} {τ : Slots} {L : List Loop} {F : List Frame} {w₁ : World} → w₁.steps ≡ suc w.steps → Moves n w false (at c s τ L F w₁)
  done : {v : ℕ} {w₁ : World} → w₁.steps ≡ suc w.steps → Moves n w false (halted v w₁)
  lost : Moves n w false stuck

module _ (n : ℕ) (w : World) where
  one_moves : (s : List ℕ) (g : ℕ → List ℕ → Machine) → ((v : ℕ) (s₁ : List ℕ) → Moves n w false (g v s₁)) → Moves n w false (one s g)
  unfolding one
  one_moves [] g h = lost
  one_moves (v ∷ s) g h = h v s

  two_moves : (s : List ℕ) (g : ℕ → ℕ → List ℕ → Machine) → ((u v : ℕ) (s₁ : List ℕ) → Moves n w false (g u v s₁)) → Moves n w false (two s g)
  unfolding two
  two_moves [] g h = lost
  two_moves (v ∷ []) g h = lost
  two_moves (v ∷ u ∷ s) g h = h u v s

  grab_moves : (j : ℕ) (s vs : List ℕ) (g : List ℕ → List ℕ → Machine) → ((us s₁ : List ℕ) → Moves n w false (g us s₁)) → Moves n w false (grab j s vs g)
  unfolding grab
  grab_moves zero s vs g h = h vs s
  grab_moves (suc j) [] vs g h = lost
  grab_moves (suc j) (v ∷ s) vs g h = grab_moves j s (v ∷ vs) g h

  back_moves : (F : List Frame) (v : ℕ) → Moves n w false (back F v w)
  unfolding back tick
  back_moves [] v = done refl
  back_moves (f ∷ F) v = ticked refl

  for_moves : (b : Bool) (l : Loop) (c : Code) (s : List ℕ) (τ : Slots) (L : List Loop) (F : List Frame) → length c ≤ n
      → Moves n w (is_free (turn_for b)) (pass b l c s τ L F w)
  unfolding pass tick turn_for is_free
  for_moves true l c s τ L F h = ticked refl
  for_moves false l c s τ L F h = forward h

  end_moves : (b : Bool) (l : Loop) (body c : Code) (s : List ℕ) (τ : Slots) (L : List Loop) (F : List Frame) → length c ≤ n
      → Moves n w (is_free (turn_end b body)) (pass b l c s τ L F w)
  unfolding pass tick turn_end is_free
  end_moves true l body c s τ L F h = ticked refl
  end_moves false l body c s τ L F h = forward h

  loops_moves : (L : List Loop) (c : Code) (s : List ℕ) (τ : Slots) (F : List Frame) → length c ≤ n → Moves n w (is_free (turn_loops L)) (ending L c s τ F w)
  unfolding ending turn_loops is_free
  loops_moves [] c s τ F h = lost
  loops_moves (l ∷ L) c s τ F h = end_moves (ltb (suc l.pass) l.to) (again l) l.body c s τ L F h

module _ (lengths : List ℕ) (Δ : ℕ → Entry) where
  pub exec_moves : (i : Instruction) (c : Code) (s : List ℕ) (τ : Slots) (L : List Loop) (F : List Frame) (w : World)
      → Moves (length c) w (is_free (turn i L)) (exec lengths Δ i c s τ L F w)
  unfolding turn is_free exec tick stored
  exec_moves (program p q) c s τ L F w = lost
  exec_moves (array n) c s τ L F w = lost
  exec_moves (cfunc p q) c s τ L F w = lost
  exec_moves (lit v) c s τ L F w = forward (le_refl _)
  exec_moves (var x) c s τ L F w = ticked refl
  exec_moves (get a) c s τ L F w = one_moves _ w s _ (λ i s₁. ticked refl)
  exec_moves not c s τ L F w = one_moves _ w s _ (λ v s₁. ticked refl)
  exec_moves (bin o) c s τ L F w = two_moves _ w s _ (λ u v s₁. ticked refl)
  exec_moves (call f) c s τ L F w = grab_moves _ w (Δ f).params s [] _ (λ vs s₁. ticked refl)
  exec_moves (def x) c s τ L F w = one_moves _ w s _ (λ v s₁. ticked refl)
  exec_moves (set x) c s τ L F w = one_moves _ w s _ (λ v s₁. ticked refl)
  exec_moves (put a) c s τ L F w = two_moves _ w s _ (λ i v s₁. ticked refl)
  exec_moves (for x q r) c s τ L F w = for_moves _ w (ltb q r) _ (past 0 c) s τ L F (tail_length (past_tail c 0))
  exec_moves end c s τ L F w = loops_moves _ w L c s τ F (le_refl _)
  exec_moves (ret x) c s τ L F w = back_moves _ w F (τ x)
  exec_moves other c s τ L F w = lost

  -- ---- settling
  -- a record that counts nothing only goes forward
  moves_forward : {n : ℕ} {w : World} {b : Bool} {m : Machine} → Moves n w b m → b ≡ true → left m ≤ n
  unfolding left
  moves_forward (forward l) h = l
  moves_forward (ticked e) h = clash h
  moves_forward (done e) h = clash h
  moves_forward lost h = clash h

  pub quiet_forward : (m : Machine) → quiet m ≡ true → left (step lengths Δ m) < left m
  unfolding quiet step left
  quiet_forward (at [] s τ L F w) h = clash h
  quiet_forward (at (i ∷ c) s τ L F w) h = omega (arith, moves_forward (exec_moves i c s τ L F w) h)
  quiet_forward (halted v w) h = clash h
  quiet_forward stuck h = clash h

  pub settle_on : (n : ℕ) (m : Machine) → quiet m ≡ true → settle lengths Δ (suc n) m ≡ settle lengths Δ n (step lengths Δ m)
  unfolding settle
  settle_on n m h = rw (h, settle)

  pub settle_loud : (n : ℕ) (m : Machine) → quiet m ≡ false → settle lengths Δ n m ≡ m
  unfolding settle
  settle_loud zero m h = refl
  settle_loud (suc n) m h = rw (h, settle)

  none_left : (m : Machine) → left m ≤ 0 → quiet m ≡ false
  none_left m h = by (quiet m) refl
    where
      by : (t : Bool) → quiet m ≡ t → quiet m ≡ false
      by true q = absurd (omega (arith, quiet_forward m q))
      by false q = q

  -- more fuel than records are left changes nothing
  pub settle_same : (a b : ℕ) (m : Machine) → left m ≤ a → left m ≤ b → settle lengths Δ a m ≡ settle lengths Δ b m
  settle_same zero b m h k = let q = none_left m h in settle_loud 0 m q ∙ sym (settle_loud b m q)
  settle_same (suc a) zero m h k = let q = none_left m k in settle_loud (suc a) m q ∙ sym (settle_loud 0 m q)
  settle_same (suc a) (suc b) m h k = by (quiet m) refl (settle_same a b (step lengths Δ m))
    where
      by : (t : Bool) → quiet m ≡ t
          → (left (step lengths Δ m) ≤ a → left (step lengths Δ m) ≤ b → settle lengths Δ a (step lengths Δ m) ≡ settle lengths Δ b (step lengths Δ m))
          → settle lengths Δ (suc a) m ≡ settle lengths Δ (suc b) m
      by true q r = let l = quiet_forward m q in settle_on a m q ∙ r (omega arith) (omega arith) ∙ sym (settle_on b m q)
      by false q r = settle_loud (suc a) m q ∙ sym (settle_loud (suc b) m q)

  pub settle_enough : (n : ℕ) (m : Machine) → left m ≤ n → settle lengths Δ n m ≡ settled lengths Δ m
  settle_enough n m h = settle_same n (left m) m h (le_refl _)

  pub settled_step : (m : Machine) → quiet m ≡ true → settled lengths Δ (step lengths Δ m) ≡ settled lengths Δ m
  settled_step m q =
      let l = quiet_forward m q in
      sym (settle_enough (left m) (step lengths Δ m) (omega arith)) ∙ sym (settle_on (left m) m q) ∙ settle_enough (suc (left m)) m (omega arith)

  -- where it settles, a record counts, or none is left
  settle_ends : (n : ℕ) (m : Machine) → left m ≤ n → quiet (settle lengths Δ n m) ≡ false
  unfolding settle
  settle_ends zero m h = none_left m h
  settle_ends (suc n) m h = by (quiet m) refl (settle_ends n (step lengths Δ m))
    where
      by : (t : Bool) → quiet m ≡ t → (left (step lengths Δ m) ≤ n → quiet (settle lengths Δ n (step lengths Δ m)) ≡ false)
          → quiet (settle lengths Δ (suc n) m) ≡ false
      by true q r = let l = quiet_forward m q in rw (settle_on n m q) (r (omega arith))
      by false q r = rw (settle_loud (suc n) m q) q

  pub settled_loud : (m : Machine) → quiet (settled lengths Δ m) ≡ false
  settled_loud m = settle_ends (left m) m (le_refl _)

  pub settled_settled : (m : Machine) → settled lengths Δ (settled lengths Δ m) ≡ settled lengths Δ m
  settled_settled m = settle_loud (left (settled lengths Δ m)) (settled lengths Δ m) (settled_loud m)

  -- ---- standing
  pub stands_quiet : (n : ℕ) (m : Machine) → quiet m ≡ true → stands lengths Δ n m ≡ stands lengths Δ n (step lengths Δ m)
  unfolding stands
  stands_quiet zero m q = sym (settled_step m q)
  stands_quiet (suc n) m q = ap (λ (k : Machine). stands lengths Δ n (step lengths Δ k)) (sym (settled_step m q))

  pub stands_here : (m : Machine) → quiet m ≡ false → stands lengths Δ 0 m ≡ m
  unfolding stands
  stands_here m q = settle_loud (left m) m q

  pub stands_counting : (n : ℕ) (m : Machine) → quiet m ≡ false → stands lengths Δ (suc n) m ≡ stands lengths Δ n (step lengths Δ m)
  unfolding stands
  stands_counting n m q = ap (λ (k : Machine). stands lengths Δ n (step lengths Δ k)) (settle_loud (left m) m q)

  pub stands_settled : (n : ℕ) (m : Machine) → stands lengths Δ n (settled lengths Δ m) ≡ stands lengths Δ n m
  unfolding stands
  stands_settled zero m = settled_settled m
  stands_settled (suc n) m = ap (λ (k : Machine). stands lengths Δ n (step lengths Δ k)) (settled_settled m)

  pub stands_loud : (n : ℕ) (m : Machine) → quiet (stands lengths Δ n m) ≡ false
  unfolding stands
  stands_loud zero m = settled_loud m
  stands_loud (suc n) m = stands_loud n (step lengths Δ (settled lengths Δ m))

  -- steps add up
  pub stands_add : (n k : ℕ) (m : Machine) → stands lengths Δ (n + k) m ≡ stands lengths Δ k (stands lengths Δ n m)
  unfolding stands
  stands_add zero k m = rw zero-add (sym (stands_settled k m))
  stands_add (suc n) k m = rw suc-add (stands_add n k (step lengths Δ (settled lengths Δ m)))

  pub stands_suc : (n : ℕ) (m : Machine) → stands lengths Δ (suc n) m ≡ settled lengths Δ (step lengths Δ (stands lengths Δ n m))
  unfolding stands
  stands_suc zero m = refl
  stands_suc (suc n) m = stands_suc n (step lengths Δ (settled lengths Δ m))

  pub step_halted : (v : ℕ) (w : World) → step lengths Δ (halted v w) ≡ halted v w
  unfolding step
  step_halted v w = refl

  pub stands_halted : (n v : ℕ) (w : World) → stands lengths Δ n (halted v w) ≡ halted v w
  unfolding stands settle left step
  stands_halted zero v w = refl
  stands_halted (suc n) v w = stands_halted n v w
