-- The arrays of loops and of frames, read and written as the lists that they stand for. Assumes nothing.
use mathlib.Core.Path.{◌≡◌, sym, ap, ◌∙◌}
use mathlib.Core.List.{List}
use Prim.Native.Nat.{ℕ}
use lib.ListN.{get_or, get_or-map, set as put_at}
use lib.Seq.{map-set, set-get_or}
use Rattle.std.proofs.lemmas.Bool.Decides.{nat_tests}
use Rattle.machine.specs.declared.stacks.Loop.{Loop}
use Rattle.machine.specs.declared.stacks.Frame.{Frame}
use Rattle.machine.specs.Flat.{fors_of, passes_of, backs_of, bases_of}

module _ (l : List Loop) (d : ℕ) where
  abbrev pub loop_at : Loop
  loop_at = get_or l d (record { at = 0; pass = 0 })

  pub for_at : get_or (fors_of l) d 0 ≡ loop_at.at
  for_at = get_or-map _ l d _

  pub pass_at : get_or (passes_of l) d 0 ≡ loop_at.pass
  pass_at = get_or-map _ l d _

  -- a loop is opened, or goes on to pass n
  pub for_set : (x : Loop) → fors_of (put_at l d x) ≡ put_at (fors_of l) d x.at
  for_set x = map-set _ l d x

  pub pass_set : (x : Loop) → passes_of (put_at l d x) ≡ put_at (passes_of l) d x.pass
  pass_set x = map-set _ l d x

  pub for_stays : (n : ℕ) → fors_of (put_at l d (record { at = loop_at.at; pass = n })) ≡ fors_of l
  for_stays n = map-set _ l d _ ∙ ap (put_at (fors_of l) d) (sym for_at) ∙ set-get_or (fors_of l) d 0

module _ (l : List Frame) (d : ℕ) where
  abbrev pub frame_at : Frame
  frame_at = get_or l d (record { back = 0; base = 0 })

  pub back_at : get_or (backs_of l) d 0 ≡ frame_at.back
  back_at = get_or-map _ l d _

  pub base_at : get_or (bases_of l) d 0 ≡ frame_at.base
  base_at = get_or-map _ l d _

  -- a call is opened
  pub back_set : (x : Frame) → backs_of (put_at l d x) ≡ put_at (backs_of l) d x.back
  back_set x = map-set _ l d x

  pub base_set : (x : Frame) → bases_of (put_at l d x) ≡ put_at (bases_of l) d x.base
  base_set x = map-set _ l d x

-- and what a test on numbers decides
pub ruleset rows = (nat_tests, for_at, pass_at, for_set, pass_set, for_stays, back_at, base_at, back_set, base_set)
