-- An accepted tape is the tape of a core tree: sound, within the limits, and with exactly the steps that the check gives. Assumes nothing.
use mathlib.Core.Path.{◌≡◌, refl, sym, ap, ◌∙◌}
use mathlib.Core.List.{List, []}
use Prim.Native.Nat.{ℕ, zero, suc, ◌-◌, ◌≤◌, ◌<◌}
use native.Mathlib.Omega.{arith}
use lib.ListN.{length, get_or, drop, drop_of_length-le}
use Rattle.word.specs.Records.{records, record_at}
use Rattle.tape.specs.Core.{CProgram}
use Rattle.tape.specs.Instruction.{code_of, words}
use Rattle.tape.specs.Tape.{instructions, tape}
use Rattle.tape.specs.Steps.{most, steps_from, steps_of, steps_exposed}
use Rattle.tape.specs.Scan.{Scan, known_at, start}
use Rattle.tape.specs.Faults.{more}
use Rattle.tape.specs.Check.{within, at_end, check}
use Rattle.tape.proofs.Places.{scan_at, never, Passed, passed}
use Rattle.tape.proofs.Reading.{code_length, code_from}
use Rattle.tape.proofs.Written.{words_code}
use Rattle.tape.proofs.Sound.{Sound}
use Rattle.tape.proofs.Limits.{each_at, Limits}
use Rattle.tape.proofs.Knowing.{knows_steps, within_most}
use Rattle.tape.proofs.Finished.{funcs_all, steps_length, sounds_all, Finished}
use Rattle.tape.proofs.Stands.{Stands, program_due, array_due, function_due, body_due, nothing_due}
use Rattle.tape.proofs.Postfix.{stands_next}
use Rattle.std.specs.Prelude.{Ok}

pub record ProgramOf (t : List ℕ) (m : ℕ) : Type 0 where
  pub program : CProgram
  pub is : code_of t ≡ instructions program
  pub words_are : t ≡ tape program
  pub steps : m ≡ steps_exposed program
  pub sound : Sound program
  pub limits : Limits program

module _ (t : List ℕ) (m : ℕ) (p : Passed t m) where
  stands_at : (i : ℕ) → i ≤ records t → Stands (code_of t) (drop i (code_of t)) (scan_at t i) i
  unfolding scan_at start
  stands_at zero h = program_due refl refl refl
  stands_at (suc i) h = stands_next (scan_at t i) (record_at t i) i (p.faultless i h) (rw (code_from t i h) at (stands_at i (omega arith)))

  -- after the last function
  ended : (s : Scan) → Finished s.functions s.arrays s.known (code_of t) [] → length s.known ≡ s.functions
      → within s.known (Ok (known_at s (length s.known - 1)).steps) ≡ Ok m → ProgramOf t m
  unfolding instructions tape steps_of steps_exposed
  ended s d l e =
      let (each, last) = within_most s.known _ m e in
      let q : CProgram = record { arrays = d.lengths; funcs = d.funcs } in
      let functions : s.functions ≡ length d.funcs = omega (arith, d.counted) in
      let code : code_of t ≡ instructions q = rw (functions, ← d.all_arrays, funcs_all) at d.is in
      record {
        program = q;
        is = code;
        words_are = sym (words_code t (λ i h. (p.faultless i h).unused) p.whole) ∙ ap words code;
        steps =
            sym last ∙ knows_steps d.knows (length s.known - 1) ∙ ap (λ (n : ℕ). get_or (steps_from [] d.funcs) (n - 1) 0) d.counted;
        sound = sounds_all d.sounds (omega (arith, d.head.some_functions));
        limits =
            record {
              records = omega (arith, ap length code, code_length t, p.few);
              head = rw (← functions, d.all_arrays) d.head;
              funcs = rw d.all_arrays d.fits;
              within = rw d.knows.all_steps at each;
            };
      }

  ends : (s : Scan) (at : ℕ) → Stands (code_of t) [] s at → at_end (more s.due) s at ≡ Ok m → ProgramOf t m
  unfolding at_end more
  ends s at (program_due d is z) e = absurd (never (rw d at e))
  ends s at (array_due d ns h k l few is) e = absurd (never (rw d at e))
  ends s at (function_due d done l) e = absurd (never (rw d at e))
  ends s at (body_due d b) e = absurd (never (rw d at e))
  ends s at (nothing_due d done l) e = ended s done l (rw d at e)

  program_of : ProgramOf t m
  program_of =
      let none = drop_of_length-le (code_of t) {i = records t} (omega (arith, code_length t)) in
      ends (scan_at t (records t)) (records t) (rw none at (stands_at (records t) (omega arith))) p.ends

pub accepted_is_program : (t : List ℕ) (m : ℕ) → check t ≡ Ok m → ProgramOf t m
accepted_is_program t m e = program_of t m (passed t m e)

-- each function's steps, by its number
pub steps_within : (p : CProgram) → Limits p → (f : ℕ) → f < length p.funcs → get_or (steps_of p) f 0 ≤ most
unfolding steps_of
steps_within p l f h = each_at l.within f 0 (omega (arith, steps_length [] p.funcs))
