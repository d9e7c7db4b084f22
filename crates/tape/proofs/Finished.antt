-- The functions of a tape that is read half: those that are finished, and one more. Assumes nothing.
use mathlib.Core.Path.{◌≡◌, refl, ap, ◌∙◌}
use mathlib.Core.List.{List, [], ◌∷◌, ◌++◌}
use Prim.Native.Nat.{ℕ, zero, suc, ◌+◌, ◌<◌}
use native.Mathlib.Omega.{arith}
use lib.ListN.{length, get_or, length-append}
use Rattle.word.specs.Slots.{upd, fixed, Scope}
use Rattle.tape.specs.Core.{CExpr, LIT, VAR, GET, NOT, BIN, CALL, CExprs, NONE, MORE, CStmt, SKIP, ◌⨾◌, DEF, SET, PUT, FOR, CFunc}
use Rattle.tape.specs.Instruction.{Code, program, array}
use Rattle.tape.specs.Tape.{tape_f, tape_fs, tape_arrays}
use Rattle.tape.specs.Steps.{steps_f, steps_from}
use Rattle.tape.specs.Scan.{Known}
use Rattle.tape.proofs.Sound.{after_s, SoundE, SoundEs, SoundS, SoundF, SoundFrom, the_last, one_more, params_at}
use Rattle.tape.proofs.Limits.{Each, none, one, FitsHead, FitsF}
use Rattle.tape.proofs.Knowing.{Knows, knows_on, knows_more}

-- ---- their records, before those of c
unfoldable pub funcs_tape : List CFunc → Code → Code
funcs_tape [] c = c
funcs_tape (f ∷ fs) c = tape_f f (funcs_tape fs c)

pub funcs_all : (fs : List CFunc) → funcs_tape fs [] ≡ tape_fs fs
unfolding funcs_tape tape_fs
funcs_all [] = refl
funcs_all (f ∷ fs) = ap (tape_f f) (funcs_all fs)

funcs_more : (fs : List CFunc) (f : CFunc) (c : Code) → funcs_tape (fs ++ f ∷ []) c ≡ funcs_tape fs (tape_f f c)
unfolding funcs_tape
funcs_more [] f c = refl
funcs_more (g ∷ fs) f c = ap (tape_f g) (funcs_more fs f c)

pub arrays_more : (ns : List ℕ) (n : ℕ) (c : Code) → tape_arrays (ns ++ n ∷ []) c ≡ tape_arrays ns (array n ∷ c)
unfolding tape_arrays
arrays_more [] n c = refl
arrays_more (a ∷ ns) n c = ap (array a ∷◌) (arrays_more ns n c)

pub each_more : {A : Type 0} {P : A → Type 0} {xs : List A} {x : A} → Each P xs → P x → Each P (xs ++ x ∷ [])
each_more none h = one h none
each_more (one k r) h = one k (each_more r h)

-- ---- their steps
steps_more : (known : List ℕ) (fs : List CFunc) (f : CFunc)
    → steps_from known (fs ++ f ∷ []) ≡ steps_from known fs ++ steps_f (λ g. get_or (steps_from known fs) g 0) f ∷ []
unfolding steps_from
steps_more known [] f = refl
steps_more known (g ∷ fs) f = steps_more (known ++ steps_f (λ h. get_or known h 0) g ∷ []) fs f

pub steps_length : (known : List ℕ) (fs : List CFunc) → length (steps_from known fs) ≡ length known + length fs
unfolding steps_from
steps_length known [] = omega arith
steps_length known (f ∷ fs) =
    let next : List ℕ = known ++ steps_f (λ g. get_or known g 0) f ∷ [] in
    omega (arith, steps_length next fs, length-append known (steps_f (λ g. get_or known g 0) f ∷ []))

-- ---- their parameters
params_on : (fs hs : List CFunc) (g : ℕ) → g < length fs → params_at fs g ≡ params_at (fs ++ hs) g
unfolding params_at
params_on [] hs g h = absurd (omega arith)
params_on (f ∷ fs) hs zero h = refl
params_on (f ∷ fs) hs (suc g) h = params_on fs hs g (omega arith)

params_last : (fs : List CFunc) (f : CFunc) → f.params ≡ params_at (fs ++ f ∷ []) (length fs)
unfolding params_at
params_last [] f = refl
params_last (g ∷ fs) f = params_last fs f

-- ---- soundness asks for the parameters of lower functions only
module _ (π π₁ : ℕ → ℕ) (k : ℕ) (agree : (f : ℕ) → f < k → π f ≡ π₁ f) where
  mutual
    unfolding SoundE

    e_sound : (e : CExpr) (D : Scope) → SoundE π k D e → SoundE π₁ k D e
    e_sound (LIT v) D h = h
    e_sound (VAR x) D h = h
    e_sound (GET a i) D h = e_sound i D h
    e_sound (NOT e) D h = e_sound e D h
    e_sound (BIN o l r) D h = (e_sound l D h.0, e_sound r D h.1)
    e_sound (CALL f es) D h = (h.0, h.1 ∙ agree f h.0, es_sound es D h.2)

    es_sound : (es : CExprs) (D : Scope) → SoundEs π k D es → SoundEs π₁ k D es
    es_sound NONE D h = h
    es_sound (MORE e es) D h = (e_sound e D h.0, es_sound es D h.1)

  s_sound : (s : CStmt) (D : Scope) → SoundS π k D s → SoundS π₁ k D s
  unfolding SoundS
  s_sound SKIP D h = h
  s_sound (s ⨾ t) D h = (s_sound s D h.0, s_sound t (after_s D s) h.1)
  s_sound (DEF x e) D h = (h.0, e_sound e D h.1)
  s_sound (SET x e) D h = (h.0, e_sound e D h.1)
  s_sound (PUT a i e) D h = (e_sound i D h.0, e_sound e D h.1)
  s_sound (FOR x q r s) D h = (h.0, h.1, s_sound s (upd D x fixed) h.2)

  f_sound : (f : CFunc) → SoundF π k f → SoundF π₁ k f
  f_sound f h = record { body = s_sound f.body _ h.body; ret = h.ret }

-- the functions from the k-th on, if there are any
pub data Sounds (π : ℕ → ℕ) : ℕ → List CFunc → Type 0 where
  end : {k : ℕ} → Sounds π k []
  then : {k : ℕ} {f : CFunc} {fs : List CFunc} → SoundF π k f → Sounds π (suc k) fs → Sounds π k (f ∷ fs)

sounds_on : {π π₁ : ℕ → ℕ} {k : ℕ} {fs : List CFunc} → ((g : ℕ) → g < k + length fs → π g ≡ π₁ g) → Sounds π k fs → Sounds π₁ k fs
sounds_on agree end = end
sounds_on {π} {π₁} agree (then {k} {f} h r) =
    then (f_sound π π₁ k (λ g l. agree g (omega arith)) f h) (sounds_on (λ g l. agree g (omega arith)) r)

sounds_more : {π : ℕ → ℕ} {k : ℕ} {fs : List CFunc} {f : CFunc} → Sounds π k fs → (j : ℕ) → j ≡ k + length fs → SoundF π j f → Sounds π k (fs ++ f ∷ [])
sounds_more {π} {f} (end {k}) j e h =
    let q : k ≡ j = omega arith in
    let here : SoundF π k f = rw q h in
    then here end
sounds_more (then g r) j e h = then g (sounds_more r j (omega arith) h)

pub sounds_all : {π : ℕ → ℕ} {k : ℕ} {fs : List CFunc} → Sounds π k fs → 0 < length fs → SoundFrom π k fs
sounds_all end l = absurd (omega arith)
sounds_all (then h end) l = the_last h
sounds_all (then h (then g r)) l = one_more h (sounds_all (then g r) (omega arith))

-- ---- what the tape `whole` has been read as, but for what `rest` tells
pub record Finished (functions arrays : ℕ) (known : List Known) (whole rest : Code) : Type 0 where
  pub lengths : List ℕ
  pub funcs : List CFunc
  pub is : whole ≡ program functions arrays ∷ tape_arrays lengths (funcs_tape funcs rest)
  pub head : FitsHead functions arrays lengths
  pub all_arrays : length lengths ≡ arrays
  pub counted : length known ≡ length funcs
  pub knows : Knows known (params_at funcs) (steps_from [] funcs)
  pub sounds : Sounds (params_at funcs) 0 funcs
  pub fits : Each (FitsF arrays) funcs

-- the steps of the functions that are finished
abbrev pub steps_at : List CFunc → ℕ → ℕ
steps_at fs f = get_or (steps_from [] fs) f 0

-- one function more
pub finish : {functions arrays : ℕ} {known : List Known} {whole rest from : Code} (f : CFunc) (place : ℕ) (d : Finished functions arrays known whole from)
    → from ≡ tape_f f rest → SoundF (params_at d.funcs) (length d.funcs) f → FitsF arrays f
    → Finished functions arrays (known ++ record { params = f.params; steps = steps_f (steps_at d.funcs) f; place = place } ∷ []) whole rest
finish {known} f place d e s t =
    let fs = d.funcs in
    let g : Known = record { params = f.params; steps = steps_f (steps_at fs) f; place = place } in
    let agree = params_on fs (f ∷ []) in
    let c = d.counted in
    record {
      lengths = d.lengths;
      funcs = fs ++ f ∷ [];
      is = rw (funcs_more, ← e) d.is;
      head = d.head;
      all_arrays = d.all_arrays;
      counted = omega (arith, length-append known (g ∷ []), length-append fs (f ∷ []));
      knows = rw steps_more (knows_more (knows_on d.knows (λ i l. agree i (omega arith))) g (rw c (params_last fs f)));
      sounds =
          sounds_more (sounds_on (λ i l. agree i (omega arith)) d.sounds) (length fs) (omega arith)
          (f_sound (params_at fs) (params_at (fs ++ f ∷ [])) (length fs) agree f s);
      fits = each_more d.fits t;
    }
