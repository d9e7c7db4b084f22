-- What is left of a tape after some of its records: what a machine has at hand, a function's code, a loop's body; and the numbers on a tape that may
-- come to be values. Assumes nothing.
use mathlib.Core.Path.{◌≡◌, sym, ap, ◌∙◌}
use mathlib.Core.Bool.{Bool, true, false, cond}
use mathlib.Core.List.{List, [], ◌∷◌}
use Prim.Native.Nat.{ℕ, zero, suc, ◌-◌, ◌^◌, ◌≤◌, ◌<◌}
use native.Mathlib.Omega.{arith}
use native.Mathlib.Nat.{le_refl}
use lib.Dec.{eqb, lit<}
use lib.ListN.{length, get_or, drop}
use Rattle.word.specs.Records.{rec, records_of}
use Rattle.word.specs.declared.Record.{Record}
use Rattle.tape.specs.Instruction.{Instruction, Code, program, array, cfunc, lit, var, get, not, bin, call, def, set, put, for, end, ret, other, read, code_of}
use Rattle.tape.specs.Entries.{Declares, declares, with_entry, length_of, params_of, nothing, entries_of, entry_at}
use Rattle.tape.specs.Rules.{past}
use Rattle.word.proofs.Memory.{Words, no_word, a_word}

-- what is left of a code after some of its records
pub data Tail : Code → Code → Type 0 where
  whole : {c : Code} → Tail c c
  later : {d c : Code} {i : Instruction} → Tail d c → Tail d (i ∷ c)

pub tail_length : {d c : Code} → Tail d c → length d ≤ length c
tail_length whole = le_refl _
tail_length (later t) = omega (arith, tail_length t)

pub past_tail : (c : Code) (d : ℕ) → Tail (past d c) c
unfolding past
past_tail [] d = whole
past_tail (program p q ∷ c) d = later (past_tail c d)
past_tail (array n ∷ c) d = later (past_tail c d)
past_tail (cfunc p q ∷ c) d = later (past_tail c d)
past_tail (lit v ∷ c) d = later (past_tail c d)
past_tail (var x ∷ c) d = later (past_tail c d)
past_tail (get a ∷ c) d = later (past_tail c d)
past_tail (not ∷ c) d = later (past_tail c d)
past_tail (bin o ∷ c) d = later (past_tail c d)
past_tail (call f ∷ c) d = later (past_tail c d)
past_tail (def x ∷ c) d = later (past_tail c d)
past_tail (set x ∷ c) d = later (past_tail c d)
past_tail (put a ∷ c) d = later (past_tail c d)
past_tail (for x q r ∷ c) d = later (past_tail c (suc d))
past_tail (end ∷ c) zero = later whole
past_tail (end ∷ c) (suc d) = later (past_tail c d)
past_tail (ret x ∷ c) d = later (past_tail c d)
past_tail (other ∷ c) d = later (past_tail c d)

-- the records before it are those that it lacks
pub tail_drop : {d c : Code} → Tail d c → d ≡ drop (length c - length d) c
tail_drop (whole {c}) =
    let e : length c - length c ≡ 0 = omega arith in
    sym (ap (λ (n : ℕ). drop n c) e)
tail_drop (later {d} {c} {i} t) =
    let l = tail_length t in
    let e : suc (length c) - length d ≡ suc (length c - length d) = omega arith in
    tail_drop t ∙ sym (ap (λ (n : ℕ). drop n (i ∷ c)) e)

pub tail_next : {i : Instruction} {d c : Code} → Tail (i ∷ d) c → Tail d c
tail_next whole = later whole
tail_next (later t) = later (tail_next t)

pub tail_after : {b d c : Code} → Tail b d → Tail d c → Tail b c
tail_after b whole = b
tail_after b (later t) = later (tail_after b t)

pub nil_tail : (c : Code) → Tail [] c
nil_tail [] = whole
nil_tail (i ∷ c) = later (nil_tail c)

-- a function's code is some of the tape's
pub entry_tail : (c : Code) (f : ℕ) → Tail (entry_at c f).code c
unfolding entries_of with_entry
entry_tail [] f = whole
entry_tail (i ∷ c) f = later (by (declares i) f (entry_tail c))
  where
    by : (d : Declares) (g : ℕ) → ((g₁ : ℕ) → Tail (entry_at c g₁).code c)
        → Tail (get_or (with_entry d c (entries_of c)) g (record { params = 0; code = [] })).code c
    by (length_of n) g rest = rest g
    by (params_of p) zero rest = whole
    by (params_of p) (suc g) rest = rest g
    by nothing g rest = rest g

-- ---- numbers
-- the number of a record that may come to be a value: a literal, or where a loop ends
unfoldable pub carries : Instruction → ℕ
carries (program p q) = 0
carries (array n) = 0
carries (cfunc p q) = 0
carries (lit v) = v
carries (var x) = 0
carries (get a) = 0
carries not = 0
carries (bin o) = 0
carries (call f) = 0
carries (def x) = 0
carries (set x) = 0
carries (put a) = 0
carries (for x q r) = r
carries end = 0
carries (ret x) = 0
carries other = 0

pub data WordedRecord (i : Instruction) : Type 0 where
  carried : carries i < 2 ^ 32 → WordedRecord i

pub data WordedCode : Code → Type 0 where
  empty : WordedCode []
  worded : {i : Instruction} {c : Code} → WordedRecord i → WordedCode c → WordedCode (i ∷ c)

pub tail_worded : {d c : Code} → Tail d c → WordedCode c → WordedCode d
tail_worded whole h = h
tail_worded (later t) (worded k h) = tail_worded t h

-- ---- a tape of words
either : (b : Bool) {i j : Instruction} → WordedRecord i → WordedRecord j → WordedRecord (cond b i j)
either true h k = h
either false h k = k

read_worded : (x : Record) → x.p < 2 ^ 32 → x.r < 2 ^ 32 → WordedRecord (read x)
unfolding read carries
read_worded x p r =
    either (eqb x.kind 1) (carried zero_word) (either (eqb x.kind 2) (carried zero_word) (either (eqb x.kind 3) (carried zero_word)
    (either (eqb x.kind 10) (carried p) (either (eqb x.kind 11) (carried zero_word) (either (eqb x.kind 12) (carried zero_word)
    (either (eqb x.kind 13) (carried zero_word) (either (eqb x.kind 14) (carried zero_word) (either (eqb x.kind 15) (carried zero_word)
    (either (eqb x.kind 16) (carried zero_word) (either (eqb x.kind 17) (carried zero_word) (either (eqb x.kind 18) (carried zero_word)
    (either (eqb x.kind 19) (carried r) (either (eqb x.kind 20) (carried zero_word)
    (either (eqb x.kind 21) (carried zero_word) (carried zero_word)))))))))))))))
  where
    zero_word : 0 < 2 ^ 32
    zero_word = lit< tt

pub tape_worded : {t : List ℕ} → Words t → WordedCode (code_of t)
unfolding code_of records_of
tape_worded no_word = empty
tape_worded (a_word k no_word) = empty
tape_worded (a_word k (a_word p no_word)) = empty
tape_worded (a_word k (a_word p (a_word q no_word))) = empty
tape_worded (a_word {v = a} k (a_word {v = b} p (a_word {v = c} q (a_word {v = d} r h)))) = worded (read_worded (rec a b c d) p r) (tape_worded h)
