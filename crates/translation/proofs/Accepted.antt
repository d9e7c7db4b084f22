-- An accepted script, within its ranges: no stage found a fault, so that its translation is correct, and sound on the tape. Assumes nothing.
use mathlib.Core.Path.{◌≡◌}
use mathlib.Core.List.{List}
use Prim.Native.Nat.{ℕ}
use Rattle.word.proofs.Memory.{Words, Bytes}
use Rattle.script.specs.Tree.{Program}
use Rattle.script.specs.Stage.{over_program}
use Rattle.script.specs.Scope.{scope_f}
use Rattle.script.specs.Types.{type_f}
use Rattle.script.specs.Stores.{stores}
use Rattle.script.specs.Plain.{plain}
use Rattle.script.specs.Written.{Within}
use Rattle.script.proofs.Walks.{both_clean}
use Rattle.script.proofs.Judging.{accepted_sound}
use Rattle.tape.specs.Rules.{World}
use Rattle.tape.proofs.Meaning.{cprogram}
use Rattle.tape.proofs.Sound.{Sound}
use Rattle.translation.specs.Translate.{translate}
use Rattle.translation.specs.Compile.{costs, stages, first_of}
use Rattle.translation.proofs.Expressions.{Same}
use Rattle.translation.proofs.Correct.{correct}
use Rattle.translation.proofs.Translated.{translated_sound}
use Rattle.std.specs.Prelude.{Ok}

pub record Stages (p : Program) : Type 0 where
  pub scope : over_program scope_f p ≡ Ok tt
  pub types : over_program type_f p ≡ Ok tt
  pub helpers : stores p ≡ Ok tt
  pub steps : costs p ≡ Ok tt

pub stages_clean : (p : Program) → first_of stages p ≡ Ok tt → Stages p
unfolding first_of stages
stages_clean p h =
    let a = both_clean _ h in
    let b = both_clean _ a.1 in
    let c = both_clean _ b.1 in
    record { scope = a.0; types = b.0; helpers = c.0; steps = (both_clean _ c.1).0 }

pub accepted_correct : (p : Program) → Within p → first_of stages p ≡ Ok tt → {arguments m : List ℕ} → Words arguments → Bytes m
    → (w : World) → w.bytes ≡ m → Same (cprogram (translate p) arguments w) (plain p arguments m)
accepted_correct p i h = let s = stages_clean p h in correct p (accepted_sound p i s.scope s.types s.helpers)

pub accepted_translated : (p : Program) → Within p → first_of stages p ≡ Ok tt → Sound (translate p)
accepted_translated p i h = translated_sound p i (stages_clean p h).scope
