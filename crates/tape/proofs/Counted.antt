-- Where a sound core program stands after n counted steps, from the start, with none counted: underway, with n steps counted, as long as n is below the
-- steps of its text; then done, with its value, its bytes and these steps. So it is never stuck. Assumes nothing.
use mathlib.Core.Path.{◌≡◌, ◌∙◌}
use mathlib.Core.List.{List}
use Prim.Native.Nat.{ℕ, ◌+◌, ◌-◌, ◌≤◌, ◌<◌}
use native.Mathlib.Omega.{arith}
use native.Mathlib.Nat.{zero-add}
use native.Mathlib.Decide.{dec_lt}
use Rattle.tape.specs.Core.{CProgram}
use Rattle.tape.specs.Tape.{instructions}
use Rattle.tape.specs.Steps.{steps_exposed}
use Rattle.tape.specs.Entries.{entry_at}
use Rattle.tape.specs.Rules.{Machine, halted}
use Rattle.tape.proofs.Meaning.{cprogram}
use Rattle.tape.proofs.Sound.{Sound}
use Rattle.tape.proofs.Costs.{program_cost}
use Rattle.tape.proofs.Settling.{counter, stands_halted}
use Rattle.tape.proofs.Running.{Underway, underway, Live, at_record, at_end, runs_stands, runs_underway, opening, standing}
use Rattle.tape.proofs.Entering.{tape_lengths}
use Rattle.tape.proofs.Follows.{follows}

pub total_steps : (p : CProgram) (values bytes : List ℕ) → (cprogram p values (opening bytes)).1.steps ≡ steps_exposed p
total_steps p values bytes = program_cost p values (opening bytes) ∙ zero-add (steps_exposed p)

module _ (p : CProgram) (h : Sound p) (values bytes : List ℕ) where
  pub stands_done : (n : ℕ) → steps_exposed p ≤ n
      → standing (instructions p) values bytes n ≡ halted (cprogram p values (opening bytes)).0 (cprogram p values (opening bytes)).1
  stands_done n l =
      let e : n ≡ steps_exposed p + (n - steps_exposed p) = omega arith in
      let runs = runs_stands p.arrays (entry_at (instructions p)) (follows p h values (opening bytes)) (n - steps_exposed p) in
      let (v, w) = cprogram p values (opening bytes) in
      rw (tape_lengths, e) (runs ∙ stands_halted p.arrays (entry_at (instructions p)) (n - steps_exposed p) v w)

  pub stands_underway : (n : ℕ) → n < steps_exposed p → Underway n (standing (instructions p) values bytes n)
  unfolding counter
  stands_underway n l = rw tape_lengths (rw zero-add at (runs_underway p.arrays (entry_at (instructions p)) (follows p h values (opening bytes)) n l))

  pub never_stuck : (n : ℕ) → Live (standing (instructions p) values bytes n)
  never_stuck n = by (dec_lt n (steps_exposed p))
    where
      live : {k : ℕ} {m : Machine} → Underway k m → Live m
      live (underway q e) = at_record

      by : Dec (n < steps_exposed p) → Live (standing (instructions p) values bytes n)
      by (yes l) = live (stands_underway n l)
      by (no l) = rw (stands_done n (omega arith)) at_end
