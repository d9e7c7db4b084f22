-- What the tape of a core tree declares: its arrays, and its functions, each with the code that follows its CFUNC. Assumes nothing.
use mathlib.Core.Path.{◌≡◌, refl, ap, ◌∙◌}
use mathlib.Core.List.{List, [], ◌∷◌}
use Prim.Native.Nat.{ℕ, zero, suc, ◌-◌, ◌<◌}
use native.Mathlib.Omega.{arith}
use native.Mathlib.Nat.{not-suc-le-zero}
use lib.ListN.{length, get_or, drop}
use Rattle.tape.specs.Core.{CExpr, LIT, VAR, GET, NOT, BIN, CALL, CExprs, NONE, MORE, CStmt, SKIP, ◌⨾◌, DEF, SET, PUT, FOR, CFunc, CProgram}
use Rattle.tape.specs.Instruction.{Code, end, ret}
use Rattle.tape.specs.Tape.{tape_e, tape_es, tape_s, tape_f, tape_fs, tape_arrays, instructions}
use Rattle.tape.specs.Entries.{Entry, declares, with_length, lengths_of, with_entry, entries_of, entry_at, exposed}
use Rattle.tape.proofs.Sound.{params_at}

-- function f, where fs come after it
unfoldable pub entry_of : CFunc → List CFunc → Entry
entry_of f fs = record { params = f.params; code = tape_s f.body (ret f.ret ∷ tape_fs fs) }

unfoldable pub entries_fs : List CFunc → List Entry
entries_fs [] = []
entries_fs (f ∷ fs) = entry_of f fs ∷ entries_fs fs

-- ---- statements declare nothing
declared : Code → List ℕ × List Entry
declared c = (lengths_of c, entries_of c)

mutual
  unfolding tape_e declared lengths_of entries_of declares with_length with_entry

  declared_e : (e : CExpr) (c : Code) → declared (tape_e e c) ≡ declared c
  declared_e (LIT v) c = refl
  declared_e (VAR x) c = refl
  declared_e (GET a i) c = declared_e i _
  declared_e (NOT e) c = declared_e e _
  declared_e (BIN o l r) c = declared_e l _ ∙ declared_e r _
  declared_e (CALL f es) c = declared_es es _

  declared_es : (es : CExprs) (c : Code) → declared (tape_es es c) ≡ declared c
  declared_es NONE c = refl
  declared_es (MORE e es) c = declared_e e _ ∙ declared_es es c

declared_s : (s : CStmt) (c : Code) → declared (tape_s s c) ≡ declared c
unfolding tape_s declared lengths_of entries_of declares with_length with_entry
declared_s SKIP c = refl
declared_s (s ⨾ t) c = declared_s s _ ∙ declared_s t c
declared_s (DEF x e) c = declared_e e _
declared_s (SET x e) c = declared_e e _
declared_s (PUT a i e) c = declared_e i _ ∙ declared_e e _
declared_s (FOR x q r s) c = declared_s s (end ∷ c)

-- ---- functions and arrays
lengths_fs : (fs : List CFunc) → lengths_of (tape_fs fs) ≡ []
unfolding tape_fs tape_f declared lengths_of declares with_length
lengths_fs [] = refl
lengths_fs (f ∷ fs) = ap (λ (d : List ℕ × List Entry). d.0) (declared_s f.body (ret f.ret ∷ tape_fs fs)) ∙ lengths_fs fs

entries_fs_lem : (fs : List CFunc) → entries_of (tape_fs fs) ≡ entries_fs fs
unfolding tape_fs tape_f declared entries_of declares with_entry entries_fs entry_of
entries_fs_lem [] = refl
entries_fs_lem (f ∷ fs) = ap (entry_of f fs ∷◌) (ap (λ (d : List ℕ × List Entry). d.1) (declared_s f.body (ret f.ret ∷ tape_fs fs)) ∙ entries_fs_lem fs)

lengths_arrays : (arrays : List ℕ) (c : Code) → lengths_of c ≡ [] → lengths_of (tape_arrays arrays c) ≡ arrays
unfolding tape_arrays lengths_of declares with_length
lengths_arrays [] c h = h
lengths_arrays (n ∷ arrays) c h = ap (n ∷◌) (lengths_arrays arrays c h)

entries_arrays : (arrays : List ℕ) (c : Code) → entries_of (tape_arrays arrays c) ≡ entries_of c
unfolding tape_arrays entries_of declares with_entry
entries_arrays [] c = refl
entries_arrays (n ∷ arrays) c = entries_arrays arrays c

-- ---- programs
pub tape_lengths : (p : CProgram) → lengths_of (instructions p) ≡ p.arrays
unfolding instructions lengths_of declares with_length
tape_lengths p = lengths_arrays p.arrays (tape_fs p.funcs) (lengths_fs p.funcs)

pub tape_entries : (p : CProgram) → entries_of (instructions p) ≡ entries_fs p.funcs
unfolding instructions entries_of declares with_entry
tape_entries p = entries_arrays p.arrays (tape_fs p.funcs) ∙ entries_fs_lem p.funcs

entries_count : (fs : List CFunc) → length (entries_fs fs) ≡ length fs
unfolding entries_fs
entries_count [] = refl
entries_count (f ∷ fs) = ap suc (entries_count fs)

pub tape_count : (p : CProgram) → length (entries_of (instructions p)) ≡ length p.funcs
tape_count p = ap length (tape_entries p) ∙ entries_count p.funcs

-- the entry of no function
abbrev pub nowhere : Entry
nowhere = record { params = 0; code = [] }

entry_at_lem : (fs : List CFunc) (f : ℕ) (none : CFunc) → f < length fs → get_or (entries_fs fs) f nowhere ≡ entry_of (get_or fs f none) (drop (suc f) fs)
unfolding entries_fs
entry_at_lem [] f none h = absurd (not-suc-le-zero h)
entry_at_lem (g ∷ fs) zero none h = refl
entry_at_lem (g ∷ fs) (suc f) none h = entry_at_lem fs f none (omega arith)

-- function f's parameters, and its code with that of the functions after it
pub tape_entry : (p : CProgram) (f : ℕ) (none : CFunc) → f < length p.funcs
    → entry_at (instructions p) f ≡ entry_of (get_or p.funcs f none) (drop (suc f) p.funcs)
tape_entry p f none h = rw tape_entries (entry_at_lem p.funcs f none h)

params_at_lem : (fs : List CFunc) (f : ℕ) → (get_or (entries_fs fs) f nowhere).params ≡ params_at fs f
unfolding entries_fs params_at entry_of
params_at_lem [] f = refl
params_at_lem (g ∷ fs) zero = refl
params_at_lem (g ∷ fs) (suc f) = params_at_lem fs f

pub tape_params : (p : CProgram) (f : ℕ) → (entry_at (instructions p) f).params ≡ params_at p.funcs f
tape_params p f = rw tape_entries (params_at_lem p.funcs f)

-- the exposed function is the last one
unfoldable pub last_of : CFunc → List CFunc → CFunc
last_of f [] = f
last_of f (g ∷ fs) = last_of g fs

entry_last : (f : CFunc) (fs : List CFunc) → get_or (entries_fs (f ∷ fs)) (length fs) nowhere ≡ entry_of (last_of f fs) []
unfolding entries_fs last_of
entry_last f [] = refl
entry_last f (g ∷ fs) = entry_last g fs

pub tape_exposed : (p : CProgram) (f : CFunc) (fs : List CFunc) → p.funcs ≡ f ∷ fs → exposed (instructions p) ≡ entry_of (last_of f fs) []
tape_exposed p f fs e =
    let i : length (f ∷ fs) - 1 ≡ length fs = omega arith in
    rw (tape_count, tape_entries, e, i) (entry_last f fs)
