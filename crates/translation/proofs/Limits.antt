-- A compiled tape is within the limits that the check keeps, and so it is accepted, with the steps that the compiler announces. Assumes nothing.
use mathlib.Core.Path.{◌≡◌, refl}
use mathlib.Core.Bool.{Bool, true, false}
use mathlib.Core.List.{List, [], ◌∷◌}
use Prim.Native.Nat.{ℕ, ◌+◌, ◌≤◌}
use native.Mathlib.Omega.{arith}
use borrow.Author.Tests.{leb-true}
use lib.Dec.{leb}
use lib.ListN.{length, length-map}
use Rattle.script.specs.Tree.{Func, Program, size_f}
use Rattle.script.specs.Written.{InArrays, no_array, an_array, Within}
use Rattle.script.specs.Stage.{First}
use Rattle.script.proofs.Walks.{faulty}
use Rattle.tape.specs.Tape.{tape}
use Rattle.tape.specs.Steps.{most, steps_of, steps_exposed}
use Rattle.tape.specs.Check.{check}
use Rattle.tape.proofs.Finished.{steps_length}
use Rattle.tape.proofs.Limits.{Each, none, one, Limits}
use Rattle.tape.proofs.Admitted.{admitted}
use Rattle.translation.specs.Translate.{FDEFT, translate}
use Rattle.translation.specs.Compile.{unless_over, within, costs, stages, first_of}
use Rattle.translation.proofs.Accepted.{stages_clean, accepted_translated}
use Rattle.translation.proofs.Sizes.{tape_most}
use Rattle.translation.proofs.Ranges.{translated_fit}
use Rattle.std.specs.Prelude.{Ok}

-- 12: no function takes more steps than that
unless_clean : (b : Bool) (place : ℕ) {rest : First} → unless_over b place rest ≡ Ok tt → (b ≡ true) × (rest ≡ Ok tt)
unfolding unless_over
unless_clean true place e = (refl, e)
unless_clean false place e = absurd (faulty e)

steps_most : (at : ℕ) (fs : List Func) (steps : List ℕ) → length steps ≡ length fs → within at fs steps ≡ Ok tt → Each (λ n. n ≤ most) steps
unfolding within
steps_most at [] [] l e = none
steps_most at [] (n ∷ steps) l e = absurd (omega arith)
steps_most at (f ∷ fs) [] l e = none
steps_most at (f ∷ fs) (n ∷ steps) l e =
    let (here, rest) = unless_clean (leb n most) at e in
    one (leb-true n most here) (steps_most (at + size_f f) fs steps (omega arith) rest)

each_length : {lengths : List ℕ} → InArrays lengths → Each (λ n. (1 ≤ n) × (n ≤ 4096)) lengths
each_length no_array = none
each_length (an_array l m r) = one (l, m) (each_length r)

pub translated_limits : (p : Program) → Within p → first_of stages p ≡ Ok tt → Limits (translate p)
unfolding translate costs steps_of
translated_limits p w h =
    let functions = length-map p.funcs FDEFT in
    let steps = steps_of (translate p) in
    record {
      records = omega (arith, tape_most p w);
      head =
          record {
            some_functions = omega (arith, w.some);
            few_functions = omega (arith, w.functions);
            few_arrays = w.arrays;
            each_array = each_length w.lengths;
          };
      funcs = translated_fit w.funcs;
      within = steps_most _ p.funcs steps (omega (arith, steps_length [] (translate p).funcs)) (stages_clean p h).steps;
    }

pub tape_accepted : (p : Program) → Within p → first_of stages p ≡ Ok tt → check (tape (translate p)) ≡ Ok (steps_exposed (translate p))
tape_accepted p w h = admitted (translate p) (accepted_translated p w h) (translated_limits p w h)
