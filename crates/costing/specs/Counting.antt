-- Expressions and statements of a table counted by the figures of their translation, whether the words are a table or not. A part is entered where the
-- count stands, and left with it past the part. Assumes nothing: these are definitions.
use Rattle.std.specs.Prelude.{ℕ, zero, suc, ◌+◌, ◌-◌, ◌*◌, max, cond, List, [], ◌∷◌, leb, drop}
use Rattle.word.specs.Records.{records_of}
use Rattle.word.specs.Reader.{read_at}
use Rattle.word.specs.declared.Record.{Record}
use Rattle.word.specs.Reader.{Read}
use Rattle.std.specs.Prelude.{Some, None}
use Rattle.script.specs.Table.{HeadS, SKIP, SEQ, DEF, SET, PUT, FOR, IF, RETURN, read_s}
use Rattle.scoping.specs.Passes.{params_of, arity_of}
use Rattle.tape.specs.Held.{hold}
use Rattle.costing.specs.declared.count.Count.{Count}
use Rattle.script.specs.Shape.{times}

abbrev pub count : ℕ → ℕ → ℕ → ℕ → Count
count at records steps deepest = record { at = record { at = at }; records = records; steps = steps; deepest = deepest }

-- at another record
abbrev pub moved : ℕ → Count → Count
moved at c = count at c.records c.steps c.deepest

-- so many core records and steps more, held at the limit
unfoldable pub plus : ℕ → ℕ → Count → Count
plus r n c = count c.at.at (hold (c.records + r)) (hold (c.steps + n)) c.deepest

-- at least d IFs deep
unfoldable pub deeper : ℕ → Count → Count
deeper d c = count c.at.at c.records c.steps (max c.deepest d)

-- ---- expressions
-- the steps of a record by itself, where function f takes params_of κ f
unfoldable pub weight : List ℕ → Record → ℕ
weight κ x = cond (leb x.kind 22) 0 (cond (leb x.kind 27) 1 (hold (1 + params_of κ x.p)))

-- past so many records of the table, which are as many on the tape
unfoldable pub past : ℕ → ℕ → Count → Count
past r n c = count (c.at.at + r) (hold (c.records + r)) (hold (c.steps + n)) c.deepest

module _ (params κ : List ℕ) where
  -- records, until so many parts have ended
  unfoldable pub tally_one : (ℕ → Count → Count) → Record → ℕ → Count → Count
  tally_one f x zero c = c
  tally_one f x (suc p) c = f (hold (p + arity_of params x)) (past 1 (weight κ x) c)

  unfoldable pub tally : List Record → ℕ → Count → Count
  tally [] p c = c
  tally (x ∷ xs) p c = tally_one (tally xs) x p c

  module _ (t : List ℕ) where
    unfoldable pub expression : Count → Count
    expression c = tally (drop c.at.at (records_of t)) 1 c

-- ---- statements
-- SET, PUT and RETURN under d IFs, behind their expressions
unfoldable pub masked : ℕ → Count → Count
masked d c = plus (4 * d + 12) (4 * d + 10) c

-- FOR and END; the body's steps by themselves, and then as often as the loop goes round, each time with FOR's one
unfoldable pub opened : Count → Count
opened c = count c.at.at (hold (c.records + 2)) 0 c.deepest

unfoldable pub closed : ℕ → ℕ → Count → Count
closed before passes c = count c.at.at c.records (hold (before + passes * suc c.steps)) c.deepest

module _ (params κ t : List ℕ) where
  -- the index is counted again, from where it was read first
  unfoldable pub putting : ℕ → Count → Count
  putting d c =
      let e = expression params κ t (expression params κ t c) in
      masked d (moved e.at.at (expression params κ t (moved c.at.at e)))

  unfoldable pub branching : (Count → Count) → ℕ → Count → Count
  branching f d c = f (f (deeper (suc d) (plus 4 4 (expression params κ t c))))

  unfoldable pub head : (ℕ → Count → Count) → ℕ → Count → HeadS → Count
  head f d c SKIP = c
  head f d c (SEQ n) = times n (f d) c
  head f d c (DEF x) = plus 1 1 (expression params κ t c)
  head f d c (SET x) = masked d (expression params κ t c)
  head f d c (PUT a) = putting d c
  head f d c (FOR x q r) = closed c.steps (r - q) (f d (opened c))
  head f d c IF = branching (f (suc d)) d c
  head f d c RETURN = masked d (expression params κ t c)

  unfoldable pub enter : (ℕ → Count → Count) → ℕ → Count → Read → Count
  enter f d c (Some (x, i)) = head f d (moved i.at c) (read_s x)
  enter f d c None = c

  -- with d IFs round it, to the depth that is left
  unfoldable pub statement : ℕ → ℕ → Count → Count
  statement zero d c = c
  statement (suc left) d c = enter (statement left) d c (read_at t c.at.at)
