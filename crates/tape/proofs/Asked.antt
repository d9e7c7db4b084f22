-- What a record without a fault asks for is there; and what the test of the operands (28) says. Assumes nothing.
use mathlib.Core.Path.{◌≡◌}
use mathlib.Core.Bool.{true, and-eq-true_iff}
use mathlib.Core.Logic.{◌↔◌}
use Prim.Native.Nat.{ℕ, suc, ◌-◌, ◌≤◌}
use borrow.Author.Tests.{eqb-true, eq-eqb, leb-true, le-leb}
use lib.Dec.{leb}
use Rattle.tape.specs.Instruction.{Instruction}
use Rattle.tape.specs.Scan.{Scan}
use Rattle.tape.specs.Faults.{takes, just, asks}

pub record Met (s : Scan) (i : Instruction) : Type 0 where
  pub range : (asks s i).range ≡ true
  pub loops : (asks s i).loops ≡ true
  pub operands : (asks s i).operands ≡ true
  pub slot : (asks s i).slot ≡ true

pub takes_iff : (n : ℕ) (s : Scan) → (takes n s ≡ true) ↔ ((n ≤ s.body.operands) × (suc (s.body.operands - n) ≤ 128))
unfolding takes
takes_iff n s =
    let o = s.body.operands in
    let both = and-eq-true_iff (leb n o) (leb (suc (o - n)) 128) in
    (λ e. let (a, b) = both.0 e in (leb-true n o a, leb-true (suc (o - n)) 128 b), λ h. both.1 (le-leb n o h.0, le-leb (suc (o - n)) 128 h.1))

pub just_iff : (n : ℕ) (s : Scan) → (just n s ≡ true) ↔ (s.body.operands ≡ n)
unfolding just
just_iff n s = (eqb-true s.body.operands n, eq-eqb s.body.operands n)
