-- The sheet that an emitter writes on, a core record at a time; and a core tree laid on it, part by part. Assumes nothing: these are definitions.
use Rattle.std.specs.Prelude.{ℕ, ◌+◌, ◌*◌, Bool, true, false, List, [], ◌∷◌, ltb}
use Rattle.std.proofs.lemmas.List.Edits.{sets}
use Rattle.word.specs.Value.{and, or}
use Rattle.word.specs.Code.{code}
use Rattle.word.specs.Records.{records}
use Rattle.word.specs.declared.Record.{Record}
use Rattle.tape.specs.Core.{CExpr, LIT, VAR, GET, NOT, BIN, CALL, CExprs, NONE, MORE, CStmt, SKIP, ◌⨾◌, DEF, SET, PUT, FOR}
use Rattle.tape.specs.Instruction.{Instruction, lit, var, get, not, bin, call, def, set, put, for, end, write}
use Rattle.tape.specs.Held.{hold}
use Rattle.translation.specs.Translate.{Layout, context, masking}
use Rattle.emitting.specs.declared.emitter.Emitter.{Emitter}

-- the output, and the record that is written next
pub record Sheet : Type 0 where
  pub words : List ℕ
  pub at : ℕ

abbrev pub sheet : List ℕ → Emitter → Sheet
sheet out e = record { words = out; at = e.at }

-- four words, where there is room for them
unfoldable pub words_if : Bool → List ℕ → ℕ → Record → List ℕ
words_if true out at x = sets out (at * 4) (x.kind ∷ x.p ∷ x.q ∷ x.r ∷ [])
words_if false out at x = out

unfoldable pub place : Record → Sheet → Sheet
place x s =
    record {
      words = words_if (ltb s.at (records s.words)) s.words s.at x;
      at = hold (s.at + 1);
    }

unfoldable pub puts : Instruction → Sheet → Sheet
puts i s = place (write i) s

-- ---- a core tree
unfoldable mutual
  pub lay_e : CExpr → Sheet → Sheet
  lay_e (LIT v) s = puts (lit v) s
  lay_e (VAR x) s = puts (var x) s
  lay_e (GET a i) s = puts (get a) (lay_e i s)
  lay_e (NOT e) s = puts not (lay_e e s)
  lay_e (BIN o l r) s = puts (bin (code o)) (lay_e r (lay_e l s))
  lay_e (CALL f es) s = puts (call f) (lay_es es s)

  pub lay_es : CExprs → Sheet → Sheet
  lay_es NONE s = s
  lay_es (MORE e es) s = lay_es es (lay_e e s)

unfoldable pub lay_s : CStmt → Sheet → Sheet
lay_s SKIP s = s
lay_s (s ⨾ t) z = lay_s t (lay_s s z)
lay_s (DEF x e) s = puts (def x) (lay_e e s)
lay_s (SET x e) s = puts (set x) (lay_e e s)
lay_s (PUT a i e) s = puts (put a) (lay_e e (lay_e i s))
lay_s (FOR x q r b) s = puts end (lay_s b (puts (for x q r) s))

-- ---- the translation's own parts, behind the expression that they follow
module _ (l : Layout) (d : ℕ) where
  -- .. & M
  unfoldable pub masks : Sheet → Sheet
  masks s = puts (bin (code and)) (lay_e (masking l d) s)

  -- (..) | (old & ~M), behind the old value
  unfoldable pub merges : Sheet → Sheet
  merges s = puts (bin (code or)) (puts (bin (code and)) (lay_e (NOT (masking l d)) s))

  -- SET x
  unfoldable pub assigns : ℕ → Sheet → Sheet
  assigns x s = puts (set x) (merges (puts (var x) (masks s)))

  -- PUT a, behind the index that was written a second time
  unfoldable pub stores : ℕ → Sheet → Sheet
  stores a s = puts (put a) (merges (puts (get a) s))

  -- RETURN
  unfoldable pub gives : Sheet → Sheet
  gives s =
      let value = puts (set l.rval) (puts (bin (code or)) (puts (var l.rval) (masks s))) in
      puts (set l.rnset) (puts (bin (code and)) (lay_e (NOT (context l d)) (puts (var l.rnset) value)))

  -- the condition's `~`, between the branches
  unfoldable pub flips : Sheet → Sheet
  flips s = puts (set (l.condition d)) (puts not (puts (var (l.condition d)) s))
