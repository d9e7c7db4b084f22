-- What it is for a machine over a tape to stand where 000's rules stand: the rules have come, by n counted reductions and any number of others, to a
-- configuration with the machine's bytes and counter, and its next counted reduction is what the machine's record at hand does, values included; or both
-- are done, with one value. Assumes nothing: these are definitions.
use Rattle.std.specs.Prelude.{ℕ, zero, suc, ◌≡◌, Bool, true, false, List, [], ◌∷◌, ltb}
use Rattle.word.specs.Code.{op_of}
use Rattle.word.specs.Slots.{Slots}
use Rattle.word.specs.Bytes.{fetch}
use Rattle.tape.specs.Core.{CProgram}
use Rattle.tape.specs.Instruction.{Instruction, Code, program, array, cfunc, lit, var, get, not, bin, call, def, set, put, for, end, ret, other, code_of}
use Rattle.tape.specs.Tape.{tape}
use Rattle.tape.specs.Entries.{Entry, entry_at}
use Rattle.tape.specs.Rules.{World, Loop, Frame, Machine, at, halted}
use Rattle.rules.specs.Configurations.{Local, empty, Term, val, Fval, Configuration, at as conf, fval_at, beginning}
use Rattle.rules.specs.Reduction.{Deed, reads, gets, flips, bins, calls, defs, sets, puts, passes, Label, quiet, counts, Reduces}

-- ---- what the record at hand does
unfoldable pub with1 : List ℕ → (ℕ → Deed) → Label
with1 [] g = quiet
with1 (v ∷ s) g = counts (g v)

unfoldable pub with2 : List ℕ → (ℕ → ℕ → Deed) → Label
with2 [] g = quiet
with2 (v ∷ []) g = quiet
with2 (v ∷ u ∷ s) g = counts (g u v)

-- n operands before those in vs, the lowest first
unfoldable pub taken : ℕ → List ℕ → List ℕ → List ℕ
taken zero s vs = vs
taken (suc n) [] vs = vs
taken (suc n) (v ∷ s) vs = taken n s (v ∷ vs)

unfoldable pub passing : Bool → ℕ → ℕ → Label
passing true x i = counts (passes x i)
passing false x i = quiet

unfoldable pub renewing : List Loop → Label
renewing [] = quiet
renewing (l ∷ L) = passing (ltb (suc l.pass) l.to) l.slot (suc l.pass)

module _ (lengths : List ℕ) (Δ : ℕ → Entry) where
  unfoldable pub deed : Instruction → List ℕ → Slots → List Loop → World → Label
  deed (program p q) s τ L w = quiet
  deed (array n) s τ L w = quiet
  deed (cfunc p q) s τ L w = quiet
  deed (lit v) s τ L w = quiet
  deed (var x) s τ L w = counts (reads x (τ x))
  deed (get a) s τ L w = with1 s (λ i. gets a i (fetch lengths w.bytes a i))
  deed not s τ L w = with1 s flips
  deed (bin o) s τ L w = with2 s (bins (op_of o))
  deed (call f) s τ L w = counts (calls f (taken (Δ f).params s []))
  deed (def x) s τ L w = with1 s (defs x)
  deed (set x) s τ L w = with1 s (sets x)
  deed (put a) s τ L w = with2 s (puts a)
  deed (for x q r) s τ L w = passing (ltb q r) x q
  deed end s τ L w = renewing L
  deed (ret x) s τ L w = counts (reads x (τ x))
  deed other s τ L w = quiet

module _ (lengths : List ℕ) (Λ : ℕ → Fval) where
  -- n counted reductions on, and any number of quiet ones
  pub data Reaches : ℕ → Configuration → Configuration → Type 0 where
    here : {c : Configuration} → Reaches 0 c c
    quietly : {n : ℕ} {w w₁ : World} {μ μ₁ : List Local} {e e₁ : Term} {c : Configuration}
        → Reduces lengths Λ empty quiet w μ e w₁ μ₁ e₁ → Reaches n (conf w₁ μ₁ e₁) c → Reaches n (conf w μ e) c
    counting : {n : ℕ} {a : Deed} {w w₁ : World} {μ μ₁ : List Local} {e e₁ : Term} {c : Configuration}
        → Reduces lengths Λ empty (counts a) w μ e w₁ μ₁ e₁ → Reaches n (conf w₁ μ₁ e₁) c → Reaches (suc n) (conf w μ e) c

  module _ (Δ : ℕ → Entry) where
    pub data Corresponds : Machine → Configuration → Type 0 where
      done : {v : ℕ} {w : World} → Corresponds (halted v w) (conf w [] (val v))
      due : {i : Instruction} {c : Code} {s : List ℕ} {τ : Slots} {L : List Loop} {F : List Frame} {w w₁ : World} {μ μ₁ : List Local} {e e₁ : Term} {a : Deed}
          → deed lengths Δ i s τ L w ≡ counts a → Reduces lengths Λ empty (counts a) w μ e w₁ μ₁ e₁ → Corresponds (at (i ∷ c) s τ L F w) (conf w μ e)

unfoldable pub counter_of : Configuration → ℕ
counter_of (conf w μ e) = w.steps

-- the machine m stands where the rules stand that began on this program, after n counted reductions
pub record StandsAt (p : CProgram) (Δ : ℕ → Entry) (arguments memory : List ℕ) (n : ℕ) (m : Machine) : Type 0 where
  pub configuration : Configuration
  pub reached : Reaches p.arrays (fval_at p.funcs) n (beginning p arguments memory) configuration
  pub counter : counter_of configuration ≡ n
  pub corresponds : Corresponds p.arrays (fval_at p.funcs) Δ m configuration

-- and of a tape: there is a core program whose tape it is, and the machine stands where the rules stand that began on it
pub record FollowsRules (t arguments memory : List ℕ) (n : ℕ) (m : Machine) : Type 0 where
  pub program_of : CProgram
  pub is : t ≡ tape program_of
  pub stands : StandsAt program_of (entry_at (code_of t)) arguments memory n m
