-- The records of a core tape, each by itself (01, "The core tape"). Assumes nothing: these are definitions.
use Rattle.std.specs.Prelude.{ℕ, List, map, cond, eqb}
use Rattle.word.specs.Records.{rec, records_of, words_of}
use Rattle.word.specs.declared.Record.{Record}

-- kinds 1, 2, 3; 10 to 21 in their order; and a record of no kind that a tape has
pub data Instruction : Type 0 where
  program : ℕ → ℕ → Instruction
  array : ℕ → Instruction
  cfunc : ℕ → ℕ → Instruction
  lit var get : ℕ → Instruction
  not : Instruction
  bin call def set put : ℕ → Instruction
  for : ℕ → ℕ → ℕ → Instruction
  end : Instruction
  ret : ℕ → Instruction
  other : Instruction

unfoldable pub write : Instruction → Record
write (program p q) = rec 1 p q 0
write (array n) = rec 2 n 0 0
write (cfunc p q) = rec 3 p q 0
write (lit v) = rec 10 v 0 0
write (var x) = rec 11 x 0 0
write (get a) = rec 12 a 0 0
write not = rec 13 0 0 0
write (bin o) = rec 14 o 0 0
write (call f) = rec 15 f 0 0
write (def x) = rec 16 x 0 0
write (set x) = rec 17 x 0 0
write (put a) = rec 18 a 0 0
write (for x q r) = rec 19 x q r
write end = rec 20 0 0 0
write (ret x) = rec 21 x 0 0
write other = rec 0 0 0 0

unfoldable pub read : Record → Instruction
read x =
    cond (eqb x.kind 1) (program x.p x.q)
    (cond (eqb x.kind 2) (array x.p)
    (cond (eqb x.kind 3) (cfunc x.p x.q)
    (cond (eqb x.kind 10) (lit x.p)
    (cond (eqb x.kind 11) (var x.p)
    (cond (eqb x.kind 12) (get x.p)
    (cond (eqb x.kind 13) not
    (cond (eqb x.kind 14) (bin x.p)
    (cond (eqb x.kind 15) (call x.p)
    (cond (eqb x.kind 16) (def x.p)
    (cond (eqb x.kind 17) (set x.p)
    (cond (eqb x.kind 18) (put x.p)
    (cond (eqb x.kind 19) (for x.p x.q x.r)
    (cond (eqb x.kind 20) end
    (cond (eqb x.kind 21) (ret x.p)
    other))))))))))))))

-- a tape as its instructions, and instructions as the words of a tape
abbrev pub Code : Type 0
Code = List Instruction

unfoldable pub code_of : List ℕ → Code
code_of t = map read (records_of t)

unfoldable pub words : Code → List ℕ
words c = words_of (map write c)
