-- LOCKSTEP, for every tape: two machines that differ in values alone (operands, slots, bytes) run the same records in the same order, count the same
-- steps, and end or get stuck together. Assumes nothing.
use mathlib.Core.Path.{◌≡◌, refl, sym, ap, ◌∙◌}
use mathlib.Core.Bool.{Bool, true, false}
use mathlib.Core.List.{List, [], ◌∷◌}
use Prim.Native.Nat.{ℕ, zero, suc}
use lib.Dec.{ltb}
use Rattle.word.specs.Slots.{Slots}
use Rattle.tape.specs.Instruction.{Instruction, Code, program, array, cfunc, lit, var, get, not, bin, call, def, set, put, for, end, ret, other}
use Rattle.tape.specs.Entries.{Entry, lengths_of, entry_at}
use Rattle.tape.specs.Rules.{World, Loop, Frame, Machine, at, halted, stuck, tick, stored, one, two, grab, past, pass, again, ending, back, exec, step, quiet, left, settle, settled, stands, place}
use Rattle.tape.proofs.Settling.{counter, settle_on, settle_loud}
use Rattle.tape.proofs.Running.{begins, standing}

-- as many operands
pub data Many : List ℕ → List ℕ → Type 0 where
  none : Many [] []
  more : {v u : ℕ} {s t : List ℕ} → Many s t → Many (v ∷ s) (u ∷ t)

-- the same callers, but for their values
pub data Callers : List Frame → List Frame → Type 0 where
  none : Callers [] []
  more : {c : Code} {s t : List ℕ} {τ σ : Slots} {L : List Loop} {F G : List Frame} → Many s t → Callers F G
      → Callers (record { code = c; operands = s; slots = τ; loops = L } ∷ F) (record { code = c; operands = t; slots = σ; loops = L } ∷ G)

pub data Alike : Machine → Machine → Type 0 where
  both_at : {c : Code} {s t : List ℕ} {τ σ : Slots} {L : List Loop} {F G : List Frame} {w v : World} → Many s t → Callers F G → w.steps ≡ v.steps
      → Alike (at c s τ L F w) (at c t σ L G v)
  both_halted : {a b : ℕ} {w v : World} → w.steps ≡ v.steps → Alike (halted a w) (halted b v)
  both_stuck : Alike stuck stuck

-- ---- one record
one_alike : {s t : List ℕ} → Many s t → (g h : ℕ → List ℕ → Machine) → ((v u : ℕ) (s₁ t₁ : List ℕ) → Many s₁ t₁ → Alike (g v s₁) (h u t₁))
    → Alike (one s g) (one t h)
unfolding one
one_alike none g h k = both_stuck
one_alike (more r) g h k = k _ _ _ _ r

two_alike : {s t : List ℕ} → Many s t → (g h : ℕ → ℕ → List ℕ → Machine)
    → ((a b c d : ℕ) (s₁ t₁ : List ℕ) → Many s₁ t₁ → Alike (g a b s₁) (h c d t₁)) → Alike (two s g) (two t h)
unfolding two
two_alike none g h k = both_stuck
two_alike (more none) g h k = both_stuck
two_alike (more (more r)) g h k = k _ _ _ _ _ _ r

grab_alike : (n : ℕ) {s t : List ℕ} → Many s t → (vs us : List ℕ) (g h : List ℕ → List ℕ → Machine)
    → ((vs₁ us₁ s₁ t₁ : List ℕ) → Many s₁ t₁ → Alike (g vs₁ s₁) (h us₁ t₁))
    → Alike (grab n s vs g) (grab n t us h)
unfolding grab
grab_alike zero r vs us g h k = k _ _ _ _ r
grab_alike (suc n) none vs us g h k = both_stuck
grab_alike (suc n) (more r) vs us g h k = grab_alike n r _ _ g h k

-- with other slots, and in another world that has counted as many steps
module _ (τ σ : Slots) (w v : World) (e : w.steps ≡ v.steps) where
  pass_alike : (b : Bool) (l : Loop) (c : Code) {s t : List ℕ} (L : List Loop) {F G : List Frame} → Many s t → Callers F G
      → Alike (pass b l c s τ L F w) (pass b l c t σ L G v)
  unfolding pass tick
  pass_alike true l c L r f = both_at r f (ap suc e)
  pass_alike false l c L r f = both_at r f e

  ending_alike : (L : List Loop) (c : Code) {s t : List ℕ} {F G : List Frame} → Many s t → Callers F G → Alike (ending L c s τ F w) (ending L c t σ G v)
  unfolding ending
  ending_alike [] c r f = both_stuck
  ending_alike (l ∷ L) c r f = pass_alike (ltb (suc l.pass) l.to) (again l) c L r f

  back_alike : {F G : List Frame} → Callers F G → (a b : ℕ) → Alike (back F a w) (back G b v)
  unfolding back tick
  back_alike none a b = both_halted (ap suc e)
  back_alike (more r f) a b = both_at (more r) f (ap suc e)

  exec_alike : (lengths : List ℕ) (Δ : ℕ → Entry) (i : Instruction) (c : Code) (L : List Loop) {s t : List ℕ} {F G : List Frame} → Many s t → Callers F G
      → Alike (exec lengths Δ i c s τ L F w) (exec lengths Δ i c t σ L G v)
  unfolding exec tick stored
  exec_alike lengths Δ (program p q) c L r f = both_stuck
  exec_alike lengths Δ (array n) c L r f = both_stuck
  exec_alike lengths Δ (cfunc p q) c L r f = both_stuck
  exec_alike lengths Δ (lit n) c L r f = both_at (more r) f e
  exec_alike lengths Δ (var x) c L r f = both_at (more r) f (ap suc e)
  exec_alike lengths Δ (get a) c L r f = one_alike r _ _ (λ n m s₁ t₁ q. both_at (more q) f (ap suc e))
  exec_alike lengths Δ not c L r f = one_alike r _ _ (λ n m s₁ t₁ q. both_at (more q) f (ap suc e))
  exec_alike lengths Δ (bin o) c L r f = two_alike r _ _ (λ n n₁ m m₁ s₁ t₁ q. both_at (more q) f (ap suc e))
  exec_alike lengths Δ (call g) c L r f = grab_alike (Δ g).params r [] [] _ _ (λ vs us s₁ t₁ q. both_at none (more q f) (ap suc e))
  exec_alike lengths Δ (def x) c L r f = one_alike r _ _ (λ n m s₁ t₁ q. both_at q f (ap suc e))
  exec_alike lengths Δ (set x) c L r f = one_alike r _ _ (λ n m s₁ t₁ q. both_at q f (ap suc e))
  exec_alike lengths Δ (put a) c L r f = two_alike r _ _ (λ n n₁ m m₁ s₁ t₁ q. both_at q f (ap suc e))
  exec_alike lengths Δ (for x q n) c L r f = pass_alike (ltb q n) _ (past 0 c) L r f
  exec_alike lengths Δ end c L r f = ending_alike L c r f
  exec_alike lengths Δ (ret x) c L r f = back_alike f (τ x) (σ x)
  exec_alike lengths Δ other c L r f = both_stuck

-- ---- what is alike is at the same record, with as many left, and counts alike
pub quiet_alike : {m n : Machine} → Alike m n → quiet m ≡ quiet n
unfolding quiet
quiet_alike (both_at {c = []} r f e) = refl
quiet_alike (both_at {c = i ∷ c} r f e) = refl
quiet_alike (both_halted e) = refl
quiet_alike both_stuck = refl

pub left_alike : {m n : Machine} → Alike m n → left m ≡ left n
unfolding left
left_alike (both_at r f e) = refl
left_alike (both_halted e) = refl
left_alike both_stuck = refl

pub counter_alike : {m n : Machine} → Alike m n → counter m ≡ counter n
unfolding counter
counter_alike (both_at r f e) = e
counter_alike (both_halted e) = e
counter_alike both_stuck = refl

pub place_alike : {c d : Code} {s t : List ℕ} {τ σ : Slots} {L M : List Loop} {F G : List Frame} {w v : World} → Alike (at c s τ L F w) (at d t σ M G v)
    → (all : ℕ) → place all c L ≡ place all d M
place_alike (both_at r f e) all = refl

module _ (lengths : List ℕ) (Δ : ℕ → Entry) where
  pub step_alike : {m n : Machine} → Alike m n → Alike (step lengths Δ m) (step lengths Δ n)
  unfolding step
  step_alike (both_at {c = []} r f e) = both_stuck
  step_alike (both_at {c = i ∷ c} {τ} {σ} {L} {w} {v} r f e) = exec_alike τ σ w v e lengths Δ i c L r f
  step_alike (both_halted e) = both_halted e
  step_alike both_stuck = both_stuck

  settle_alike : (k : ℕ) {m n : Machine} → Alike m n → Alike (settle lengths Δ k m) (settle lengths Δ k n)
  unfolding settle
  settle_alike zero a = a
  settle_alike (suc k) {m} {n} a = by (quiet m) refl (settle_alike k (step_alike a))
    where
      by : (b : Bool) → quiet m ≡ b → Alike (settle lengths Δ k (step lengths Δ m)) (settle lengths Δ k (step lengths Δ n))
          → Alike (settle lengths Δ (suc k) m) (settle lengths Δ (suc k) n)
      by true q r = rw (settle_on lengths Δ k m q, settle_on lengths Δ k n (sym (quiet_alike a) ∙ q)) r
      by false q r = rw (settle_loud lengths Δ (suc k) m q, settle_loud lengths Δ (suc k) n (sym (quiet_alike a) ∙ q)) a

  pub settled_alike : {m n : Machine} → Alike m n → Alike (settled lengths Δ m) (settled lengths Δ n)
  settled_alike {m} {n} a = rw (← left_alike a) (settle_alike (left m) a)

  pub stands_alike : {m n : Machine} → Alike m n → (k : ℕ) → Alike (stands lengths Δ k m) (stands lengths Δ k n)
  unfolding stands
  stands_alike a zero = settled_alike a
  stands_alike {m = m} {n = n} a (suc k) =
      stands_alike {m = step lengths Δ (settled lengths Δ m)} {n = step lengths Δ (settled lengths Δ n)} (step_alike (settled_alike a)) k

-- two starts of one tape, on whatever arguments and bytes
pub starts_alike : (c : Code) (values values₁ bytes bytes₁ : List ℕ) → Alike (begins c values bytes) (begins c values₁ bytes₁)
starts_alike c values values₁ bytes bytes₁ = both_at none none refl

-- so they stand at the same record after n counted steps, or are both done
pub lockstep : (c : Code) (values values₁ bytes bytes₁ : List ℕ) (n : ℕ) → Alike (standing c values bytes n) (standing c values₁ bytes₁ n)
lockstep c values values₁ bytes bytes₁ n = stands_alike (lengths_of c) (entry_at c) (starts_alike c values values₁ bytes bytes₁) n
