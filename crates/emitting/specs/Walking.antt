-- The walk over a script table that writes its translation, record by record: what the code does to any words, whether they are a table or not.
-- A part is entered where the reader stands, and left with the reader past it. Assumes nothing: these are definitions.
use Rattle.std.specs.Prelude.{ℕ, zero, suc, cond, List, eqb}
use Rattle.word.specs.Value.{TRUE, FALSE}
use Rattle.word.specs.Reader.{read_at}
use Rattle.word.specs.Reader.{Read}
use Rattle.std.specs.Prelude.{Some, None}
use Rattle.script.specs.Table.{HeadE, NUM, TRUE as YES, FALSE as NO, VAR, GET, LNOT, BNOT, BIN, CALL, HeadS, SKIP, SEQ, DEF, SET, PUT, FOR, IF, RETURN, read_e, read_s}
use Rattle.script.specs.Shape.{parts_in, times}
use Rattle.tape.specs.Instruction.{lit, var, get, not, bin, call, def, for, end}
use Rattle.translation.specs.Translate.{Layout}
use Rattle.emitting.specs.Emitting.{Sheet, sheet, puts, masks, assigns, stores, gives, flips}
use Rattle.emitting.specs.declared.walk.Walk.{Walk}

-- the sheet, and the record that is read next
pub record Desk : Type 0 where
  pub sheet : Sheet
  pub read : ℕ

abbrev pub desk : Sheet → ℕ → Desk
desk s i = record { sheet = s; read = i }

abbrev pub desk_of : List ℕ → Walk → Desk
desk_of out w = desk (sheet out w.emitter) w.reader.at

abbrev pub on : (Sheet → Sheet) → Desk → Desk
on f z = desk (f z.sheet) z.read

-- a FOR round what f does
unfoldable pub looping : (Desk → Desk) → ℕ → ℕ → ℕ → Desk → Desk
looping f x q r z = on (puts end) (f (on (puts (for x q r)) z))

-- ---- expressions
-- 14 becomes 6, 15 becomes 7
unfoldable pub lowered_code : ℕ → ℕ
lowered_code o = cond (eqb o 14) 6 (cond (eqb o 15) 7 o)

-- the expression's own record, behind its parts
unfoldable pub own : HeadE → Sheet → Sheet
own (NUM v) s = puts (lit v) s
own YES s = puts (lit TRUE) s
own NO s = puts (lit FALSE) s
own (VAR x) s = puts (var x) s
own (GET a) s = puts (get a) s
own LNOT s = puts not s
own BNOT s = puts not s
own (BIN o) s = puts (bin (lowered_code o)) s
own (CALL f) s = puts (call f) s

module _ (params t : List ℕ) where
  unfoldable pub enter_e : (Desk → Desk) → Desk → Read → Desk
  enter_e f z (Some (x, i)) = on (own (read_e x)) (times (parts_in params (read_e x)) f (desk z.sheet i.at))
  enter_e f z None = z

  -- `left` is the depth that is left, this one counted
  unfoldable pub walk_e : ℕ → Desk → Desk
  walk_e zero z = z
  walk_e (suc left) z = enter_e (walk_e left) z (read_at t z.read)

  -- ---- statements, in a function with the layout l
  module _ (l : Layout) where
    -- the index is read again, from where it was read first
    unfoldable pub putting : ℕ → ℕ → Desk → Desk
    putting d a z =
        let value = on (masks l d) (walk_e 16 (walk_e 16 z)) in
        let again = walk_e 16 (desk value.sheet z.read) in
        desk (stores l d a again.sheet) value.read

    unfoldable pub branching : (Desk → Desk) → ℕ → Desk → Desk
    branching f d z = f (on (flips l d) (f (on (puts (def (l.condition d))) (walk_e 16 z))))

    unfoldable pub head_s : (ℕ → Desk → Desk) → ℕ → Desk → HeadS → Desk
    head_s f d z SKIP = z
    head_s f d z (SEQ n) = times n (f d) z
    head_s f d z (DEF x) = on (puts (def x)) (walk_e 16 z)
    head_s f d z (SET x) = on (assigns l d x) (walk_e 16 z)
    head_s f d z (PUT a) = putting d a z
    head_s f d z (FOR x q r) = looping (f d) x q r z
    head_s f d z IF = branching (f (suc d)) d z
    head_s f d z RETURN = on (gives l d) (walk_e 16 z)

    unfoldable pub enter_s : (ℕ → Desk → Desk) → ℕ → Desk → Read → Desk
    enter_s f d z (Some (x, i)) = head_s f d (desk z.sheet i.at) (read_s x)
    enter_s f d z None = z

    -- with d IFs round it
    unfoldable pub walk_s : ℕ → ℕ → Desk → Desk
    walk_s zero d z = z
    walk_s (suc left) d z = enter_s (walk_s left) d z (read_at t z.read)
