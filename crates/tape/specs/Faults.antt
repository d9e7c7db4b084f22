-- The faults of one record of a tape: 22, 24 to 29 (01, "Refusal numbers"). Assumes nothing: these are definitions.
use Rattle.std.specs.Prelude.{ℕ, suc, ◌-◌, Bool, true, false, ◌&&◌, length, ltb, leb, eqb}
use Rattle.word.specs.Records.{same}
use Rattle.word.specs.Slots.{Seen, hidden, fixed, defined}
use Rattle.word.specs.declared.Record.{Record}
use Rattle.tape.specs.Instruction.{Instruction, program, array, cfunc, lit, var, get, not, bin, call, def, set, put, for, end, ret, other, read, write}
use Rattle.tape.specs.Scan.{Due, a_program, an_array, a_function, a_body, nothing, Scan, known_at}

-- 22: "kind not due there"; kinds 10 to 21 stand in a function's body
unfoldable pub due : Due → ℕ → Bool
due a_program kind = eqb kind 1
due an_array kind = eqb kind 2
due a_function kind = eqb kind 3
due a_body kind = leb 10 kind && leb kind 21
due nothing kind = true

-- 26: "records after the last function", whatever they hold
unfoldable pub more : Due → Bool
more a_program = true
more an_array = true
more a_function = true
more a_body = true
more nothing = false

-- what a record asks for: 25, its fields' ranges; 27, open loops; 28, operands; 29, its slot
pub record Asked : Type 0 where
  pub range : Bool
  pub loops : Bool
  pub operands : Bool
  pub slot : Bool

abbrev pub asked : Bool → Bool → Bool → Bool → Asked
asked range loops operands slot = record { range = range; loops = loops; operands = operands; slot = slot }

-- 28: "too few operands, over 128 in one function": so many are taken, and one is left
unfoldable pub takes : ℕ → Scan → Bool
takes n s = leb n s.body.operands && leb (suc (s.body.operands - n)) 128

-- 28: "or a DEF, SET, PUT, FOR, END or RET with operands besides its own"
unfoldable pub just : ℕ → Scan → Bool
just n s = eqb s.body.operands n

-- 29: "a slot read or set is a parameter, a slot DEF'd earlier in the same body or in an enclosing one, or an enclosing FOR's;
-- DEF and SET never name a parameter or an enclosing FOR's slot; FOR names none of the three"
unfoldable pub readable : Seen → Bool
readable hidden = false
readable fixed = true
readable defined = true

unfoldable pub settable : Seen → Bool
settable hidden = false
settable fixed = false
settable defined = true

unfoldable pub definable : Seen → Bool
definable hidden = true
definable fixed = false
definable defined = true

unfoldable pub unnamed : Seen → Bool
unnamed hidden = true
unnamed fixed = false
unnamed defined = false

abbrev pub deep : Scan → ℕ
deep s = length s.body.loops

abbrev pub seen : Scan → ℕ → Seen
seen s x = s.body.scope x

-- 27: "ninth nested FOR, END without FOR, RET inside a loop"; 25: as the script table's, but CFUNC's slots run to 64 and BIN's codes to 13
unfoldable pub asks : Scan → Instruction → Asked
asks s (program p q) = asked ((leb 1 p && leb p 16) && leb q 8) true true true
asks s (array n) = asked (leb 1 n && leb n 4096) true true true
asks s (cfunc p q) = asked ((leb p 8 && leb p q) && leb q 64) true true true
asks s (lit v) = asked true true (takes 0 s) true
asks s (var x) = asked (ltb x s.slots) true (takes 0 s) (readable (seen s x))
asks s (get a) = asked (ltb a s.arrays) true (takes 1 s) true
asks s not = asked true true (takes 1 s) true
asks s (bin o) = asked (leb 1 o && leb o 13) true (takes 2 s) true
asks s (call f) = asked (ltb f (length s.known)) true (takes (known_at s f).params s) true
asks s (def x) = asked (ltb x s.slots) true (just 1 s) (definable (seen s x))
asks s (set x) = asked (ltb x s.slots) true (just 1 s) (settable (seen s x))
asks s (put a) = asked (ltb a s.arrays) true (just 2 s) true
asks s (for x q r) = asked (ltb x s.slots && leb q r) (ltb (deep s) 8) (just 0 s) (unnamed (seen s x))
asks s end = asked true (ltb 0 (deep s)) (just 0 s) true
asks s (ret x) = asked (ltb x s.slots) (eqb (deep s) 0) (just 0 s) (readable (seen s x))
asks s other = asked true true true true

-- the number where a test fails, else what comes after it
unfoldable pub unless : Bool → ℕ → ℕ → ℕ
unless true number rest = rest
unless false number rest = number

unfoldable pub unmet : Asked → ℕ
unmet a = unless a.range 25 (unless a.loops 27 (unless a.operands 28 (unless a.slot 29 0)))

-- a record's fault, or 0: "at one record the lowest number wins"; "A word without a meaning in its record is 0" (24)
unfoldable pub fault : Scan → Record → ℕ
fault s x =
    unless (more s.due) 26
    (unless (due s.due x.kind) 22
    (unless (same x (write (read x))) 24
    (unmet (asks s (read x)))))
