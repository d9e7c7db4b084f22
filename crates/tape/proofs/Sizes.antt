-- How many records a core tree has on its tape. Assumes nothing.
use mathlib.Core.Path.{◌≡◌, refl}
use mathlib.Core.List.{List, [], ◌∷◌}
use Prim.Native.Nat.{ℕ, suc, ◌+◌}
use native.Mathlib.Omega.{arith}
use lib.ListN.{length}
use Rattle.word.specs.Code.{code}
use Rattle.tape.specs.Core.{CExpr, LIT, VAR, GET, NOT, BIN, CALL, CExprs, NONE, MORE, CStmt, SKIP, ◌⨾◌, DEF, SET, PUT, FOR, CFunc, CProgram}
use Rattle.tape.specs.Instruction.{Code, get, not, bin, call, def, set, put, end, ret}
use Rattle.tape.specs.Tape.{tape_e, tape_es, tape_s, tape_f, tape_fs, tape_arrays, instructions}

unfoldable mutual
  pub records_e : CExpr → ℕ
  records_e (LIT v) = 1
  records_e (VAR x) = 1
  records_e (GET a i) = suc (records_e i)
  records_e (NOT e) = suc (records_e e)
  records_e (BIN o l r) = suc (records_e l + records_e r)
  records_e (CALL f es) = suc (records_es es)

  pub records_es : CExprs → ℕ
  records_es NONE = 0
  records_es (MORE e es) = records_e e + records_es es

unfoldable pub records_s : CStmt → ℕ
records_s SKIP = 0
records_s (s ⨾ t) = records_s s + records_s t
records_s (DEF x e) = suc (records_e e)
records_s (SET x e) = suc (records_e e)
records_s (PUT a i e) = suc (records_e i + records_e e)
records_s (FOR x q r s) = suc (suc (records_s s))

-- CFUNC's and RET's with them
unfoldable pub records_f : CFunc → ℕ
records_f f = suc (suc (records_s f.body))

unfoldable pub records_fs : List CFunc → ℕ
records_fs [] = 0
records_fs (f ∷ fs) = records_f f + records_fs fs

mutual
  unfolding tape_e records_e

  pub tape_e_records : (e : CExpr) (c : Code) → length (tape_e e c) ≡ records_e e + length c
  tape_e_records (LIT v) c = omega arith
  tape_e_records (VAR x) c = omega arith
  tape_e_records (GET a i) c = omega (arith, tape_e_records i (get a ∷ c))
  tape_e_records (NOT e) c = omega (arith, tape_e_records e (not ∷ c))
  tape_e_records (BIN o l r) c = omega (arith, tape_e_records l (tape_e r (bin (code o) ∷ c)), tape_e_records r (bin (code o) ∷ c))
  tape_e_records (CALL f es) c = omega (arith, tape_es_records es (call f ∷ c))

  pub tape_es_records : (es : CExprs) (c : Code) → length (tape_es es c) ≡ records_es es + length c
  tape_es_records NONE c = omega arith
  tape_es_records (MORE e es) c = omega (arith, tape_e_records e (tape_es es c), tape_es_records es c)

pub tape_s_records : (s : CStmt) (c : Code) → length (tape_s s c) ≡ records_s s + length c
unfolding tape_s records_s
tape_s_records SKIP c = omega arith
tape_s_records (s ⨾ t) c = omega (arith, tape_s_records s (tape_s t c), tape_s_records t c)
tape_s_records (DEF x e) c = omega (arith, tape_e_records e (def x ∷ c))
tape_s_records (SET x e) c = omega (arith, tape_e_records e (set x ∷ c))
tape_s_records (PUT a i e) c = omega (arith, tape_e_records i (tape_e e (put a ∷ c)), tape_e_records e (put a ∷ c))
tape_s_records (FOR x q r s) c = omega (arith, tape_s_records s (end ∷ c))

pub tape_f_records : (f : CFunc) (c : Code) → length (tape_f f c) ≡ records_f f + length c
unfolding tape_f records_f
tape_f_records f c = omega (arith, tape_s_records f.body (ret f.ret ∷ c))

pub tape_fs_records : (fs : List CFunc) → length (tape_fs fs) ≡ records_fs fs
unfolding tape_fs records_fs
tape_fs_records [] = refl
tape_fs_records (f ∷ fs) = omega (arith, tape_f_records f (tape_fs fs), tape_fs_records fs)

arrays_records : (lengths : List ℕ) (c : Code) → length (tape_arrays lengths c) ≡ length lengths + length c
unfolding tape_arrays
arrays_records [] c = omega arith
arrays_records (n ∷ lengths) c = omega (arith, arrays_records lengths c)

-- PROGRAM, the arrays, the functions
pub instructions_records : (p : CProgram) → length (instructions p) ≡ suc (length p.arrays + records_fs p.funcs)
unfolding instructions
instructions_records p = omega (arith, arrays_records p.arrays (tape_fs p.funcs), tape_fs_records p.funcs)
