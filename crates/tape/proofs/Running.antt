-- Some records further, so many of them counted: what `stands` comes to on the way, and at the end. For every tape. Assumes nothing.
use mathlib.Core.Path.{◌≡◌, refl, sym, ap, ◌∙◌}
use mathlib.Core.Bool.{Bool, true, false}
use mathlib.Core.List.{List, [], ◌∷◌}
use Prim.Native.Nat.{ℕ, zero, suc, ◌+◌, ◌<◌}
use native.Mathlib.Omega.{arith}
use native.Mathlib.Nat.{zero-add, suc-add, not-suc-le-zero}
use Rattle.word.specs.Slots.{Slots, fresh}
use Rattle.tape.specs.Instruction.{Instruction, Code}
use Rattle.tape.specs.Entries.{Entry, lengths_of, entry_at, exposed}
use Rattle.tape.specs.Rules.{World, Loop, Frame, Machine, at, halted, stuck, step, quiet, stands}
use Rattle.tape.proofs.Settling.{clash, counter, Moves, forward, ticked, done, lost, exec_moves, stands_here, stands_quiet, stands_counting}

-- at a record that counts, with n steps counted
pub data Underway (n : ℕ) : Machine → Type 0 where
  underway : {i : Instruction} {c : Code} {s : List ℕ} {τ : Slots} {L : List Loop} {F : List Frame} {w : World}
      → quiet (at (i ∷ c) s τ L F w) ≡ false → w.steps ≡ n → Underway n (at (i ∷ c) s τ L F w)

-- not stuck
pub data Live : Machine → Type 0 where
  at_record : {c : Code} {s : List ℕ} {τ : Slots} {L : List Loop} {F : List Frame} {w : World} → Live (at c s τ L F w)
  at_end : {v : ℕ} {w : World} → Live (halted v w)

module _ (lengths : List ℕ) (Δ : ℕ → Entry) where
  -- from one machine to another, so many records counted on the way
  pub data Runs : Machine → ℕ → Machine → Type 0 where
    here : {m : Machine} → Runs m 0 m
    quietly : {m m₁ : Machine} {k : ℕ} → quiet m ≡ true → Runs (step lengths Δ m) k m₁ → Runs m k m₁
    counting : {i : Instruction} {c : Code} {s : List ℕ} {τ : Slots} {L : List Loop} {F : List Frame} {w : World} {m₁ : Machine} {k : ℕ}
        → quiet (at (i ∷ c) s τ L F w) ≡ false → Runs (step lengths Δ (at (i ∷ c) s τ L F w)) k m₁ → Runs (at (i ∷ c) s τ L F w) (suc k) m₁

  pub then : {a b c : Machine} {j k : ℕ} → Runs a j b → Runs b k c → Runs a (j + k) c
  then {c} {k} here q = rw zero-add q
  then (quietly h p) q = quietly h (then p q)
  then {c} {k} (counting {k = j} h p) q = rw suc-add (counting h (then p q))

  pub runs_stands : {m m₁ : Machine} {k : ℕ} → Runs m k m₁ → (n : ℕ) → stands lengths Δ (k + n) m ≡ stands lengths Δ n m₁
  runs_stands (here {m}) n = ap (λ (j : ℕ). stands lengths Δ j m) (zero-add n)
  runs_stands (quietly {m} {k} h p) n = stands_quiet lengths Δ (k + n) m h ∙ runs_stands p n
  runs_stands (counting {m₁} {k} h p) n = rw suc-add (stands_counting lengths Δ (k + n) _ h ∙ runs_stands p n)

  -- ---- the steps counted on the way
  -- a record that counts nothing adds none; one that counts adds one, unless the machine sticks there
  pub step_quiet : (m : Machine) → quiet m ≡ true → counter (step lengths Δ m) ≡ counter m
  unfolding quiet step counter
  step_quiet (at [] s τ L F w) h = clash h
  step_quiet (at (i ∷ c) s τ L F w) h = by (exec_moves lengths Δ i c s τ L F w) h
    where
      by : {n : ℕ} {w : World} {b : Bool} {m : Machine} → Moves n w b m → b ≡ true → counter m ≡ w.steps
      by (forward l) h = refl
      by (ticked e) h = clash h
      by (done e) h = clash h
      by lost h = clash h
  step_quiet (halted v w) h = clash h
  step_quiet stuck h = clash h

  pub step_counted : (i : Instruction) (c : Code) (s : List ℕ) (τ : Slots) (L : List Loop) (F : List Frame) (w : World) → quiet (at (i ∷ c) s τ L F w) ≡ false
      → Live (step lengths Δ (at (i ∷ c) s τ L F w)) → counter (step lengths Δ (at (i ∷ c) s τ L F w)) ≡ suc w.steps
  unfolding quiet step counter
  step_counted i c s τ L F w h l = by (exec_moves lengths Δ i c s τ L F w) h l
    where
      by : {n : ℕ} {w : World} {b : Bool} {m : Machine} → Moves n w b m → b ≡ false → Live m → counter m ≡ suc w.steps
      by (forward e) h l = clash (sym h)
      by (ticked e) h l = e
      by (done e) h l = e
      by {n = n} lost h l = elim l [ ]

  -- what ends well, or has still to count, is not stuck
  quiet_live : (m : Machine) → quiet m ≡ true → Live m
  unfolding quiet
  quiet_live (at c s τ L F w) h = at_record
  quiet_live (halted v w) h = at_end
  quiet_live stuck h = clash h

  runs_live : {m m₁ : Machine} {k : ℕ} → Runs m k m₁ → Live m₁ → Live m
  runs_live here l = l
  runs_live (quietly {m} h p) l = quiet_live m h
  runs_live (counting h p) l = at_record

  counts_live : {m m₁ : Machine} {k : ℕ} → Runs m k m₁ → (j : ℕ) → j < k → Live m
  counts_live here j l = absurd (not-suc-le-zero l)
  counts_live (quietly {m} h p) j l = quiet_live m h
  counts_live (counting h p) j l = at_record

  -- each counted record counts one
  pub runs_counter : {m m₁ : Machine} {k : ℕ} → Runs m k m₁ → Live m₁ → counter m₁ ≡ counter m + k
  unfolding counter
  runs_counter here l = omega arith
  runs_counter (quietly {m} h p) l = omega (arith, step_quiet m h, runs_counter p l)
  runs_counter (counting {i} {c} {s} {τ} {L} {F} {w} h p) l =
      omega (arith, step_counted i c s τ L F w h (runs_live p l), runs_counter p l)

  -- before its last counted record, a run is underway, and never stuck
  pub runs_underway : {m m₁ : Machine} {k : ℕ} → Runs m k m₁ → (j : ℕ) → j < k → Underway (counter m + j) (stands lengths Δ j m)
  unfolding counter
  runs_underway here j l = absurd (not-suc-le-zero l)
  runs_underway (quietly {m} h p) j l = rw (stands_quiet lengths Δ j m h, ← step_quiet m h) (runs_underway p j l)
  runs_underway (counting {i} {c} {s} {τ} {L} {F} {w} h p) zero l =
      rw (stands_here lengths Δ (at (i ∷ c) s τ L F w) h) (underway h (omega arith))
  runs_underway (counting {i} {c} {s} {τ} {L} {F} {w} h p) (suc j) l =
      let q = step_counted i c s τ L F w h (counts_live p j (omega arith)) in
      let e : w.steps + suc j ≡ counter (step lengths Δ (at (i ∷ c) s τ L F w)) + j = omega arith in
      rw (stands_counting lengths Δ j (at (i ∷ c) s τ L F w) h, e) (runs_underway p j (omega arith))

  -- the two counters tell how many records were counted
  pub runs_exactly : {m m₁ : Machine} {k : ℕ} → Runs m k m₁ → Live m₁ → (n : ℕ) → counter m₁ ≡ counter m + n → Runs m n m₁
  runs_exactly {m} {m₁} {k} p l n e =
      let q = runs_counter p l in
      let same : n ≡ k = omega arith in
      rw same p

-- ---- runs of a tape, from the start
-- these bytes, and no step counted
abbrev pub opening : List ℕ → World
opening bytes = record { bytes = bytes; steps = 0 }

-- inside the exposed function: "entering it isn't counted"
abbrev pub begins : Code → List ℕ → List ℕ → Machine
begins c values bytes = at (exposed c).code [] (fresh values) [] [] (opening bytes)

-- where a tape stands after n counted steps
abbrev pub standing : Code → List ℕ → List ℕ → ℕ → Machine
standing c values bytes n = stands (lengths_of c) (entry_at c) n (begins c values bytes)
