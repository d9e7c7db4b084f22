-- The tape of a core program: "Postfix order" (01, "The core tape"). Each function writes its tree before the records that follow it.
-- Assumes nothing: these are definitions.
use Rattle.std.specs.Prelude.{ℕ, List, [], ◌∷◌, length}
use Rattle.word.specs.Code.{code}
use Rattle.tape.specs.Core.{CExpr, LIT, VAR, GET, NOT, BIN, CALL, CExprs, NONE, MORE, CStmt, SKIP, ◌⨾◌, DEF, SET, PUT, FOR, CFunc, CProgram}
use Rattle.tape.specs.Instruction.{Code, program, array, cfunc, lit, var, get, not, bin, call, def, set, put, for, end, ret, words}

unfoldable mutual
  pub tape_e : CExpr → Code → Code
  tape_e (LIT v) c = lit v ∷ c
  tape_e (VAR x) c = var x ∷ c
  tape_e (GET a i) c = tape_e i (get a ∷ c)
  tape_e (NOT e) c = tape_e e (not ∷ c)
  tape_e (BIN o l r) c = tape_e l (tape_e r (bin (code o) ∷ c))
  tape_e (CALL f es) c = tape_es es (call f ∷ c)

  pub tape_es : CExprs → Code → Code
  tape_es NONE c = c
  tape_es (MORE e es) c = tape_e e (tape_es es c)

unfoldable pub tape_s : CStmt → Code → Code
tape_s SKIP c = c
tape_s (s ⨾ t) c = tape_s s (tape_s t c)
tape_s (DEF x e) c = tape_e e (def x ∷ c)
tape_s (SET x e) c = tape_e e (set x ∷ c)
tape_s (PUT a i e) c = tape_e i (tape_e e (put a ∷ c))
tape_s (FOR x q r s) c = for x q r ∷ tape_s s (end ∷ c)

unfoldable pub tape_f : CFunc → Code → Code
tape_f f c = cfunc f.params f.slots ∷ tape_s f.body (ret f.ret ∷ c)

unfoldable pub tape_fs : List CFunc → Code
tape_fs [] = []
tape_fs (f ∷ fs) = tape_f f (tape_fs fs)

unfoldable pub tape_arrays : List ℕ → Code → Code
tape_arrays [] c = c
tape_arrays (n ∷ lengths) c = array n ∷ tape_arrays lengths c

unfoldable pub instructions : CProgram → Code
instructions p = program (length p.funcs) (length p.arrays) ∷ tape_arrays p.arrays (tape_fs p.funcs)

-- the words of its tape
unfoldable pub tape : CProgram → List ℕ
tape p = words (instructions p)
