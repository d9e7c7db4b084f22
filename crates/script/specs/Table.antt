-- The records of a script table, each by itself (01, "The script table": the table of kinds), and the faults that one record can have:
-- 3 (there is none), 2 (its kind), 4 (an unused word), 5 (a field). Assumes nothing: these are definitions.
use Rattle.std.specs.Prelude.{ℕ, List, Bool, true, cond, ◌&&◌, ltb, leb, eqb}
use Rattle.word.specs.Records.{rec, records, record_at, same}
use Rattle.word.specs.declared.Record.{Record}
use Rattle.script.specs.declared.Env.{Env}

-- a record without its parts: the expressions', kinds 20 to 28, and the statements', 30 to 37
pub data HeadE : Type 0 where
  NUM : ℕ → HeadE
  TRUE FALSE : HeadE
  VAR GET : ℕ → HeadE
  LNOT BNOT : HeadE
  BIN CALL : ℕ → HeadE

pub data HeadS : Type 0 where
  SKIP : HeadS
  SEQ DEF SET PUT : ℕ → HeadS
  FOR : ℕ → ℕ → ℕ → HeadS
  IF RETURN : HeadS

pub record HeadP : Type 0 where
  pub functions : ℕ
  pub arrays : ℕ

pub record HeadF : Type 0 where
  pub params : ℕ
  pub slots : ℕ

-- a class of records: its kinds, a record of it read and written ("A word without a meaning in its record is 0"), and the fields' ranges
pub record Class (A : Type 0) : Type 0 where
  pub due : ℕ → Bool
  pub read : Record → A
  pub write : A → Record
  pub in_range : Env → A → Bool

unfoldable pub read_e : Record → HeadE
read_e x =
    cond (eqb x.kind 20) (NUM x.p)
    (cond (eqb x.kind 21) TRUE
    (cond (eqb x.kind 22) FALSE
    (cond (eqb x.kind 23) (VAR x.p)
    (cond (eqb x.kind 24) (GET x.p)
    (cond (eqb x.kind 25) LNOT
    (cond (eqb x.kind 26) BNOT
    (cond (eqb x.kind 27) (BIN x.p)
    (CALL x.p))))))))

unfoldable pub write_e : HeadE → Record
write_e (NUM v) = rec 20 v 0 0
write_e TRUE = rec 21 0 0 0
write_e FALSE = rec 22 0 0 0
write_e (VAR x) = rec 23 x 0 0
write_e (GET a) = rec 24 a 0 0
write_e LNOT = rec 25 0 0 0
write_e BNOT = rec 26 0 0 0
write_e (BIN o) = rec 27 o 0 0
write_e (CALL f) = rec 28 f 0 0

unfoldable pub range_e : Env → HeadE → Bool
range_e e (NUM v) = true
range_e e TRUE = true
range_e e FALSE = true
range_e e (VAR x) = ltb x e.slots
range_e e (GET a) = ltb a e.arrays
range_e e LNOT = true
range_e e BNOT = true
range_e e (BIN o) = leb 1 o && leb o 15
range_e e (CALL f) = ltb f e.func

unfoldable pub read_s : Record → HeadS
read_s x =
    cond (eqb x.kind 30) SKIP
    (cond (eqb x.kind 31) (SEQ x.p)
    (cond (eqb x.kind 32) (DEF x.p)
    (cond (eqb x.kind 33) (SET x.p)
    (cond (eqb x.kind 34) (PUT x.p)
    (cond (eqb x.kind 35) (FOR x.p x.q x.r)
    (cond (eqb x.kind 36) IF
    RETURN))))))

unfoldable pub write_s : HeadS → Record
write_s SKIP = rec 30 0 0 0
write_s (SEQ n) = rec 31 n 0 0
write_s (DEF x) = rec 32 x 0 0
write_s (SET x) = rec 33 x 0 0
write_s (PUT a) = rec 34 a 0 0
write_s (FOR x q r) = rec 35 x q r
write_s IF = rec 36 0 0 0
write_s RETURN = rec 37 0 0 0

unfoldable pub range_s : Env → HeadS → Bool
range_s e SKIP = true
range_s e (SEQ n) = leb 2 n && leb n 256
range_s e (DEF x) = ltb x e.slots
range_s e (SET x) = ltb x e.slots
range_s e (PUT a) = ltb a e.arrays
range_s e (FOR x q r) = ltb x e.slots && leb q r
range_s e IF = true
range_s e RETURN = true

-- "kinds 20 to 28 are expressions, 30 to 37 statements"
unfoldable pub expression : Class HeadE
expression = record { due = λ k. leb 20 k && leb k 28; read = read_e; write = write_e; in_range = range_e }

unfoldable pub statement : Class HeadS
statement = record { due = λ k. leb 30 k && leb k 37; read = read_s; write = write_s; in_range = range_s }

-- PROGRAM (p functions 1..16, q arrays 0..8), ARRAY (p length 1..4096), FUNC (p parameters 0..8, q slots p..32)
unfoldable pub program : Class HeadP
program =
    record {
      due = λ k. eqb k 1;
      read = λ x. record { functions = x.p; arrays = x.q };
      write = λ h. rec 1 h.functions h.arrays 0;
      in_range = λ e h. (leb 1 h.functions && leb h.functions 16) && leb h.arrays 8;
    }

unfoldable pub array : Class ℕ
array = record { due = λ k. eqb k 2; read = λ x. x.p; write = λ n. rec 2 n 0 0; in_range = λ e n. leb 1 n && leb n 4096 }

unfoldable pub function : Class HeadF
function =
    record {
      due = λ k. eqb k 3;
      read = λ x. record { params = x.p; slots = x.q };
      write = λ h. rec 3 h.params h.slots 0;
      in_range = λ e h. (leb h.params 8 && leb h.params h.slots) && leb h.slots 32;
    }

-- the record at a place, where one of a class is due: it, or the refusal's number and place
pub data Lead (A : Type 0) : Type 0 where
  node : A → Lead A
  fault : ℕ → ℕ → Lead A

-- "at one record the lowest number wins"; "table ends early: record count"
unfoldable pub lead_by : {A : Type 0} → Class A → Env → Record → ℕ → Lead A
lead_by c e x at =
    cond (c.due x.kind)
    (cond (same x (c.write (c.read x)))
    (cond (c.in_range e (c.read x))
    (node (c.read x))
    (fault 5 at))
    (fault 4 at))
    (fault 2 at)

unfoldable pub lead : {A : Type 0} → Class A → Env → List ℕ → ℕ → Lead A
lead c e t at = cond (ltb at (records t)) (lead_by c e (record_at t at) at) (fault 3 (records t))
