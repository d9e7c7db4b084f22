-- A tape's words and its code: each is got back from the other. Assumes nothing.
use mathlib.Core.Path.{◌≡◌, refl, sym, ap, ◌∙◌}
use mathlib.Core.Bool.{true}
use mathlib.Core.List.{List, [], ◌∷◌, map}
use Prim.Native.Nat.{ℕ, zero, suc, ◌+◌, ◌<◌}
use native.Mathlib.Omega.{arith}
use lib.ListN.{length, drop, drop_of_length-le}
use Rattle.word.specs.Records.{records, record_at, records_of, words_of, same}
use Rattle.word.proofs.Records.{records_length, records_from, words_records, records_words, same_true}
use Rattle.tape.specs.Instruction.{Instruction, Code, program, array, cfunc, lit, var, get, not, bin, call, def, set, put, for, end, ret, other, read, write, code_of, words}

-- ---- a tape in which each record is the one of its instruction is written again from its code
module _ (t : List ℕ) (h : (i : ℕ) → i < records t → same (record_at t i) (write (read (record_at t i))) ≡ true) where
  written_from : (n i : ℕ) → i + n ≡ records t → map write (map read (drop i (records_of t))) ≡ drop i (records_of t)
  written_from zero i l = rw (drop_of_length-le (records_of t) {i = i} (omega (arith, records_length t))) refl
  written_from (suc n) i l =
      let k : i < records t = omega arith in
      let x = record_at t i in
      let rest = written_from n (suc i) (omega arith) in
      rw (records_from t i k) (ap (◌∷ map write (map read (drop (suc i) (records_of t)))) (sym (same_true x (write (read x)) (h i k))) ∙ ap (x ∷◌) rest)

  pub words_code : length t ≡ records t + records t + records t + records t → words (code_of t) ≡ t
  unfolding words code_of
  words_code e = ap words_of (written_from (records t) 0 (omega arith)) ∙ words_records t e

-- ---- an instruction is read again from its record
pub read_write : (i : Instruction) → read (write i) ≡ i
unfolding read write
read_write (program p q) = refl
read_write (array n) = refl
read_write (cfunc p q) = refl
read_write (lit v) = refl
read_write (var x) = refl
read_write (get a) = refl
read_write not = refl
read_write (bin o) = refl
read_write (call f) = refl
read_write (def x) = refl
read_write (set x) = refl
read_write (put a) = refl
read_write (for x q r) = refl
read_write end = refl
read_write (ret x) = refl
read_write other = refl

pub code_words : (c : Code) → code_of (words c) ≡ c
unfolding code_of words
code_words c = ap (map read) (records_words (map write c)) ∙ each c
  where
    each : (c : Code) → map read (map write c) ≡ c
    each [] = refl
    each (i ∷ c) = ap (◌∷ map read (map write c)) (read_write i) ∙ ap (i ∷◌) (each c)
