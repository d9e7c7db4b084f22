-- A tape as code: record by record. Assumes nothing.
use mathlib.Core.Path.{◌≡◌, refl, sym, ap, ◌∙◌}
use mathlib.Core.List.{List, [], ◌∷◌, map}
use Prim.Native.Nat.{ℕ, zero, suc, ◌<◌}
use lib.ListN.{length, drop, length-map}
use Rattle.word.specs.Records.{records, record_at, records_of}
use Rattle.word.specs.declared.Record.{Record}
use Rattle.word.proofs.Records.{records_length, records_from}
use Rattle.tape.specs.Instruction.{Code, read, code_of}

drop_map : (i : ℕ) (xs : List Record) → drop i (map read xs) ≡ map read (drop i xs)
drop_map zero xs = refl
drop_map (suc i) [] = refl
drop_map (suc i) (x ∷ xs) = drop_map i xs

pub code_length : (t : List ℕ) → length (code_of t) ≡ records t
unfolding code_of
code_length t = length-map (records_of t) read ∙ records_length t

-- the code from record i on begins with what record i says
pub code_from : (t : List ℕ) (i : ℕ) → i < records t → drop i (code_of t) ≡ read (record_at t i) ∷ drop (suc i) (code_of t)
unfolding code_of
code_from t i h =
    drop_map i (records_of t) ∙ ap (map read) (records_from t i h)
    ∙ ap (λ (c : Code). read (record_at t i) ∷ c) (sym (drop_map (suc i) (records_of t)))
