-- `Standing::returned` meets its contract: the stores are past the functions that were known. Assumes nothing.
use Prim.Native.Nat.{suc}
use mathlib.Core.Bool.{cond}
use mathlib.Core.Path.{◌≡◌, refl}
use lib.Dec.{eqb}
use borrow.Author.Tests.{eq-eqb, ne_eqb}
use native.Mathlib.Numerals.{add-one}
use native.Mathlib.Omega.{arith}
use Rattle.tape.specs.Scan.{nothing, a_function}
use Rattle.checker.specs.Standing.{due_of}
use Rattle.checker.proofs.Stores.{ret_stands}
use Rattle.checker.proofs.standing.Standing.returned.Goals as goal
use Rattle.checker.proofs.standing.Standing.returned.Goals.{then-n-self, else-n-self}

pub returns : goal.returns
unfolding due_of
returns c =
    let s = c.args.self in
    let due : due_of c.if-n-self.result ≡ cond (eqb (suc s.known) s.functions) nothing a_function =
    elim c.if-n-self.branch [ then-n-self w ↦ rw (w.result-is, eq-eqb (suc s.known) s.functions (omega arith)) refl | else-n-self w ↦ rw (w.result-is, ne_eqb (suc s.known) s.functions (omega arith)) refl ] in
    λ b at x. rw add-one (ret_stands s c.args.functions.now (omega arith) (omega arith) (omega arith) c.requires c.sum.result c.if-n-self.result b at x c.sum.ensures due)
