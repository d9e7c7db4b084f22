-- The check of a tape: 21; then the first record at fault, or 23; then 30 (01, "Refusal numbers"). Assumes nothing: these are definitions.
use Rattle.std.specs.Prelude.{ℕ, zero, suc, ◌+◌, ◌-◌, List, [], ◌∷◌, Bool, true, false, cond, length, leb}
use Rattle.word.specs.Records.{records_of, sized}
use Rattle.word.specs.declared.Record.{Record}
use Rattle.tape.specs.Instruction.{read}
use Rattle.tape.specs.Steps.{most}
use Rattle.tape.specs.Scan.{Known, Scan, known_at, start, next}
use Rattle.tape.specs.Faults.{more, fault}
use Rattle.std.specs.Prelude.{Ok}
use Rattle.word.specs.Refusals.{OrRefused, refuse}

-- accepted, with the steps of the exposed function; or refused
abbrev pub Checked : Type 0
Checked = OrRefused ℕ

-- 30: the first function whose steps are over the limit, at its CFUNC
unfoldable pub unless_over : Bool → ℕ → Checked → Checked
unless_over true place rest = rest
unless_over false place rest = refuse 30 place

unfoldable pub within : List Known → Checked → Checked
within [] answer = answer
within (f ∷ fs) answer = unless_over (leb f.steps most) f.place (within fs answer)

-- after the last record: 23 where more is due; else the steps of the exposed function, the last one
unfoldable pub at_end : Bool → Scan → ℕ → Checked
at_end true s at = refuse 23 at
at_end false s at = within s.known (Ok (known_at s (length s.known - 1)).steps)

unfoldable pub judge : ℕ → ℕ → Checked → Checked
judge zero at rest = rest
judge (suc n) at rest = refuse (suc n) at

-- the records from `at` on: "the scan stops at the first record at fault"
unfoldable pub scan : Scan → ℕ → List Record → Checked
scan s at [] = at_end (more s.due) s at
scan s at (x ∷ xs) = judge (fault s x) at (scan (next s at (read x)) (at + 1) xs)

-- 21: "no words, not whole records, over 131072 records"
unfoldable pub check : List ℕ → Checked
check t = cond (sized 131072 (length t)) (scan start 0 (records_of t)) (refuse 21 0)
