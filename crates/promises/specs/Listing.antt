-- Records as a person lists them, by the kinds of 01's two tables: of a script table, and of a core tape. Assumes nothing: these are definitions.
use Rattle.std.specs.Prelude.{ℕ}
use Rattle.word.specs.Records.{rec}
use Rattle.word.specs.declared.Record.{Record}

abbrev pub PROGRAM : ℕ → ℕ → Record
PROGRAM functions arrays = rec 1 functions arrays 0

abbrev pub ARRAY : ℕ → Record
ARRAY length = rec 2 length 0 0

-- FUNC, and CFUNC
abbrev pub FUNC : ℕ → ℕ → Record
FUNC params slots = rec 3 params slots 0

-- ---- the script table
abbrev pub NUM : ℕ → Record
NUM v = rec 20 v 0 0

abbrev pub TRU : Record
TRU = rec 21 0 0 0

abbrev pub FLS : Record
FLS = rec 22 0 0 0

abbrev pub VAR : ℕ → Record
VAR x = rec 23 x 0 0

abbrev pub GET : ℕ → Record
GET a = rec 24 a 0 0

abbrev pub LNOT : Record
LNOT = rec 25 0 0 0

abbrev pub BIN : ℕ → Record
BIN code = rec 27 code 0 0

abbrev pub CALL : ℕ → Record
CALL f = rec 28 f 0 0

abbrev pub SKIP : Record
SKIP = rec 30 0 0 0

abbrev pub SEQ : ℕ → Record
SEQ n = rec 31 n 0 0

abbrev pub DEF : ℕ → Record
DEF x = rec 32 x 0 0

abbrev pub SET : ℕ → Record
SET x = rec 33 x 0 0

abbrev pub PUT : ℕ → Record
PUT a = rec 34 a 0 0

abbrev pub FOR : ℕ → ℕ → ℕ → Record
FOR x q r = rec 35 x q r

abbrev pub IF : Record
IF = rec 36 0 0 0

abbrev pub RETURN : Record
RETURN = rec 37 0 0 0

-- ---- the core tape
abbrev pub lit : ℕ → Record
lit v = rec 10 v 0 0

abbrev pub var : ℕ → Record
var x = rec 11 x 0 0

abbrev pub get : ℕ → Record
get a = rec 12 a 0 0

abbrev pub not : Record
not = rec 13 0 0 0

abbrev pub bin : ℕ → Record
bin code = rec 14 code 0 0

abbrev pub call : ℕ → Record
call f = rec 15 f 0 0

abbrev pub def : ℕ → Record
def x = rec 16 x 0 0

abbrev pub set : ℕ → Record
set x = rec 17 x 0 0

abbrev pub put : ℕ → Record
put a = rec 18 a 0 0

abbrev pub for : ℕ → ℕ → ℕ → Record
for x q r = rec 19 x q r

abbrev pub end : Record
end = rec 20 0 0 0

abbrev pub ret : ℕ → Record
ret x = rec 21 x 0 0
