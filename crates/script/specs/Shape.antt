-- How many parts follow a record of a script table (01, "The script table"), as the code counts them. Assumes nothing: these are definitions.
use Rattle.std.specs.Prelude.{ℕ, zero, suc, List, get_or}
use Rattle.script.specs.Table.{HeadE, NUM, TRUE, FALSE, VAR, GET, LNOT, BNOT, BIN, CALL, HeadS, SKIP, SEQ, DEF, SET, PUT, FOR, IF, RETURN}

-- how many expressions follow an expression's record, where function f has get_or params f 0 parameters; how many a statement's, and how many statements after them
unfoldable pub parts_in : List ℕ → HeadE → ℕ
parts_in params (NUM v) = 0
parts_in params TRUE = 0
parts_in params FALSE = 0
parts_in params (VAR x) = 0
parts_in params (GET a) = 1
parts_in params LNOT = 1
parts_in params BNOT = 1
parts_in params (BIN o) = 2
parts_in params (CALL f) = get_or params f 0

unfoldable pub expressions_in : HeadS → ℕ
expressions_in SKIP = 0
expressions_in (SEQ n) = 0
expressions_in (DEF x) = 1
expressions_in (SET x) = 1
expressions_in (PUT a) = 2
expressions_in (FOR x q r) = 0
expressions_in IF = 1
expressions_in RETURN = 1

unfoldable pub statements_in : HeadS → ℕ
statements_in SKIP = 0
statements_in (SEQ n) = n
statements_in (DEF x) = 0
statements_in (SET x) = 0
statements_in (PUT a) = 0
statements_in (FOR x q r) = 1
statements_in IF = 2
statements_in RETURN = 0

-- so many, one after another
unfoldable pub times : {A : Type 0} → ℕ → (A → A) → A → A
times zero f a = a
times (suc n) f a = times n f (f a)
