-- The starred swatch cases hold, and each number is refused where it must be: by computation from the definitions. Assumes nothing.
use mathlib.Core.Path.{◌≡◌, refl}
use mathlib.Core.Bool.{true, ◌&&◌}
use Rattle.promises.specs.Swatches.{all, starred, seven_ok}
use Rattle.promises.specs.Refusals.{refuses_all, compiler_refusals, turns_away_all, machine_refusals}
use Rattle.promises.proofs.Computes.{promises_computes}

-- from the table's words through the tape's to value, bytes and steps, with the plain meaning beside it; and RETURN 7's twenty records
pub swatches : (all starred && seven_ok) ≡ true
unfolding promises_computes
swatches = refl

pub refusals : (refuses_all compiler_refusals && turns_away_all machine_refusals) ≡ true
unfolding promises_computes
refusals = refl
