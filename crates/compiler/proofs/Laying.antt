-- A core tree that is laid on a sheet: its words are those of its tape. Assumes nothing.
use mathlib.Core.Path.{◌≡◌, refl, ◌∙◌}
use mathlib.Core.List.{List, [], ◌∷◌}
use Prim.Native.Nat.{ℕ, suc, ◌+◌, ◌*◌, ◌≤◌}
use native.Mathlib.Omega.{arith}
use borrow.Author.Tests.{lt-ltb}
use lib.ListN.{length}
use lib.Seq.{sets, length-sets}
use Rattle.word.specs.Code.{code}
use Rattle.word.specs.Records.{records, words_of}
use Rattle.tape.specs.Core.{CExpr, LIT, VAR, GET, NOT, BIN, CALL, CExprs, NONE, MORE, CStmt, SKIP, ◌⨾◌, DEF, SET, PUT, FOR}
use Rattle.tape.specs.Instruction.{Code, get, not, bin, call, def, set, put, for, end, write, words}
use Rattle.tape.specs.Tape.{tape_e, tape_es, tape_s}
use Rattle.tape.specs.Steps.{most}
use Rattle.tape.proofs.Counts.{hold_within}
use Rattle.emitting.specs.Emitting.{Sheet, words_if, place, puts, lay_e, lay_es, lay_s}

-- ---- code that is written record by record
unfoldable pub run : Code → Sheet → Sheet
run [] s = s
run (i ∷ c) s = run c (puts i s)

mutual
  unfolding tape_e lay_e run

  run_e : (e : CExpr) (c : Code) (s : Sheet) → run (tape_e e c) s ≡ run c (lay_e e s)
  run_e (LIT v) c s = refl
  run_e (VAR x) c s = refl
  run_e (GET a i) c s = run_e i (get a ∷ c) s
  run_e (NOT e) c s = run_e e (not ∷ c) s
  run_e (BIN o l r) c s = run_e l (tape_e r (bin (code o) ∷ c)) s ∙ run_e r (bin (code o) ∷ c) (lay_e l s)
  run_e (CALL f es) c s = run_es es (call f ∷ c) s

  run_es : (es : CExprs) (c : Code) (s : Sheet) → run (tape_es es c) s ≡ run c (lay_es es s)
  run_es NONE c s = refl
  run_es (MORE e es) c s = run_e e (tape_es es c) s ∙ run_es es c (lay_e e s)

pub run_s : (b : CStmt) (c : Code) (s : Sheet) → run (tape_s b c) s ≡ run c (lay_s b s)
unfolding tape_s lay_s run
run_s SKIP c s = refl
run_s (a ⨾ b) c s = run_s a (tape_s b c) s ∙ run_s b c (lay_s a s)
run_s (DEF x e) c s = run_e e (def x ∷ c) s
run_s (SET x e) c s = run_e e (set x ∷ c) s
run_s (PUT a i e) c s = run_e i (tape_e e (put a ∷ c)) s ∙ run_e e (put a ∷ c) (lay_e i s)
run_s (FOR x q r b) c s = run_s b (end ∷ c) (puts (for x q r) s)

-- where there is room for all of it, it is the code's words, one after another
abbrev pub bare : List ℕ → ℕ → Sheet
bare out at = record { words = out; at = at }

pub run_fits : (c : Code) (out : List ℕ) (at : ℕ) → at + length c ≤ most → (at + length c) * 4 ≤ length out
    → run c (bare out at) ≡ bare (sets out (at * 4) (words c)) (at + length c)
unfolding run puts place words_if words words_of
run_fits [] out at few room = let e : at + 0 ≡ at = omega arith in rw e refl
run_fits (i ∷ c) out at few room =
    let w = write i in
    let four = w.kind ∷ w.p ∷ w.q ∷ w.r ∷ [] in
    let e : at + suc (length c) ≡ at + 1 + length c = omega arith in
    let k : (at + 1) * 4 ≡ suc (suc (suc (suc (at * 4)))) = omega arith in
    let rest = run_fits c (sets out (at * 4) four) (at + 1) (omega arith) (omega (arith, length-sets out (at * 4) four)) in
    rw (lt-ltb at (records out) (omega arith), hold_within (at + 1) (omega arith)) (rest ∙ rw (k, e) refl)
