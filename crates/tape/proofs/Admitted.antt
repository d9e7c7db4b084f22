-- Every sound core tree within the limits is accepted by the check, with exactly its steps; so these are exactly the accepted tapes. Assumes nothing.
use mathlib.Core.Path.{◌≡◌, refl, sym, ap, ◌∙◌}
use mathlib.Core.Bool.{cond, and-eq-true_iff}
use mathlib.Core.List.{List, [], ◌∷◌, ◌++◌, map}
use mathlib.Core.Logic.{◌↔◌}
use Prim.Native.Nat.{ℕ, zero, suc, ◌+◌, ◌-◌, ◌≤◌}
use native.Mathlib.Nat.{zero-add}
use native.Mathlib.Omega.{arith}
use borrow.Author.Tests.{lt-ltb, le-ltb, le-leb, eq-eqb, ne_eqb}
use lib.Dec.{ltb, eqb}
use lib.ListN.{length, get_or, length-append, length-map}
use Rattle.word.specs.Records.{words_of}
use Rattle.word.proofs.Records.{records_words, words_length, sized_iff}
use Rattle.word.specs.Slots.{begin}
use Rattle.tape.specs.Core.{CFunc, CProgram}
use Rattle.tape.specs.Instruction.{Code, program, array, cfunc, ret, write, words}
use Rattle.tape.specs.Tape.{tape_s, tape_f, tape_fs, tape_arrays, instructions, tape}
use Rattle.tape.specs.Steps.{steps_s, steps_f, steps_from, steps_of, steps_exposed}
use Rattle.tape.specs.Scan.{Due, an_array, a_function, nothing, Known, Scan, opening, start, in_body, headed, arrayed, enters, returns, next}
use Rattle.tape.specs.Faults.{due, more, asks}
use Rattle.tape.specs.Check.{at_end, scan, check}
use Rattle.tape.proofs.Sound.{after_s, SoundF, SoundFrom, the_last, one_more, params_at, Sound}
use Rattle.tape.proofs.Limits.{Each, none, one, FitsF, Limits}
use Rattle.tape.proofs.Asked.{Met, just_iff}
use Rattle.tape.proofs.Knowing.{Knows, knows_none, knows_steps, knows_length, knows_more, most_within}
use Rattle.tape.proofs.Finished.{steps_length}
use Rattle.tape.proofs.Accepted.{ProgramOf, accepted_is_program}
use Rattle.tape.proofs.Scanning.{goes_on, body_of, s_scans}
use Rattle.std.specs.Prelude.{Ok}

-- the scan comes from the code c in the state s to the code c₁, where w is due; the functions that it knows there have these parameters and steps
record Comes (s : Scan) (at : ℕ) (c : Code) (w : Due) (π : ℕ → ℕ) (steps : List ℕ) (c₁ : Code) : Type 0 where
  state : Scan
  place : ℕ
  is : scan s at (map write c) ≡ scan state place (map write c₁)
  now : state.due ≡ w
  functions : state.functions ≡ s.functions
  arrays : state.arrays ≡ s.arrays
  knows : Knows state.known π steps

onward : {s : Scan} {at : ℕ} {c c₁ c₂ : Code} {w w₁ : Due} {π : ℕ → ℕ} {steps steps₁ : List ℕ} (a : Comes s at c w π steps c₁)
    → Comes a.state a.place c₁ w₁ π steps₁ c₂ → Comes s at c w₁ π steps₁ c₂
onward a b =
    record {
      state = b.state;
      place = b.place;
      is = a.is ∙ b.is;
      now = b.now;
      functions = b.functions ∙ a.functions;
      arrays = b.arrays ∙ a.arrays;
      knows = b.knows;
    }

module _ (π : ℕ → ℕ) where
  -- ---- a function: then one more is due, or nothing
  f_comes : (s : Scan) (at : ℕ) (steps : List ℕ) (f : CFunc) (c : Code) → s.due ≡ a_function → Knows s.known π steps
      → f.params ≡ π (length s.known) → SoundF π (length s.known) f → FitsF s.arrays f
      → Comes s at (tape_f f c) (cond (eqb (suc (length s.known)) s.functions) nothing a_function) π (steps ++ steps_f (λ g. get_or steps g 0) f ∷ []) c
  unfolding tape_f steps_f next enters opening returns in_body asks due more write
  f_comes s at steps f c d k p h t =
      let κ : ℕ → ℕ = λ g. get_or steps g 0 in
      let s₁ = enters s at f.params f.slots in
      let (at₂, is₂) = (s_scans s₁ refl π steps k f.body (begin f.params) 0 [] (ret f.ret ∷ c) h.body t.body).scans (at + 1) in
      let s₂ = in_body s₁ (body_of (after_s (begin f.params) f.body) 0 (0 + steps_s κ f.body) []) in
      let params = (and-eq-true_iff _ _).1 (le-leb f.params 8 t.params, le-leb f.params f.slots t.among) in
      let range = (and-eq-true_iff _ _).1 (params, le-leb f.slots 64 t.slots) in
      let entering : Met s (cfunc f.params f.slots) = record { range = range; loops = refl; operands = refl; slot = refl } in
      let leaving : Met s₂ (ret f.ret) =
      record { range = lt-ltb f.ret f.slots t.ret; loops = refl; operands = (just_iff 0 s₂).1 refl; slot = h.ret } in
      let g : Known = record { params = f.params; steps = suc (steps_s κ f.body); place = at } in
      record {
        state = returns s₂;
        place = at₂ + 1;
        is =
            goes_on s at (cfunc f.params f.slots) (tape_s f.body (ret f.ret ∷ c)) (ap more d) (ap (λ (w : Due). due w 3) d) entering
            ∙ is₂ ∙ goes_on s₂ at₂ (ret f.ret) c refl refl leaving;
        now = refl;
        functions = refl;
        arrays = refl;
        knows = rw zero-add (knows_more k g p);
      }

  -- the functions from the k-th on: then nothing is due
  fs_come : {k : ℕ} {fs : List CFunc} → SoundFrom π k fs → (s : Scan) (at : ℕ) (steps : List ℕ) → s.due ≡ a_function → Knows s.known π steps
      → length s.known ≡ k → k + length fs ≡ s.functions → ((i : ℕ) → π (k + i) ≡ params_at fs i) → Each (FitsF s.arrays) fs
      → Comes s at (tape_fs fs) nothing π (steps_from steps fs) []
  unfolding tape_fs steps_from params_at
  fs_come (the_last {k} {f} h) s at steps d kn l n p (one t none) =
      let here : k + 0 ≡ length s.known = omega arith in
      let last = eq-eqb (suc (length s.known)) s.functions (omega arith) in
      rw last at (f_comes s at steps f [] d kn (sym (p 0) ∙ ap π here) (rw l h) t)
  fs_come (one_more {k} {f} {g} {fs} h hs) s at steps d kn l n p (one t ts) =
      let here : k + 0 ≡ length s.known = omega arith in
      let not_last = ne_eqb (suc (length s.known)) s.functions (λ e. omega arith) in
      let a = f_comes s at steps f (tape_fs (g ∷ fs)) d kn (sym (p 0) ∙ ap π here) (rw l h) t in
      let known = length-append steps (steps_f (λ i. get_or steps i 0) f ∷ []) in
      let count : length a.state.known ≡ suc k = omega (arith, knows_length kn, knows_length a.knows) in
      let all : suc k + length (g ∷ fs) ≡ a.state.functions = omega (arith, a.functions) in
      let params : (i : ℕ) → π (suc k + i) ≡ params_at (g ∷ fs) i = λ i. let e : suc k + i ≡ k + suc i = omega arith in ap π e ∙ p (suc i) in
      onward a (fs_come hs a.state a.place _ (a.now ∙ rw not_last refl) a.knows count all params (rw a.arrays ts))

-- ---- the arrays: then the first function is due
-- n more of them: ARRAY is due, or CFUNC
more_arrays : (n at arrays : ℕ) → at + suc n ≡ suc arrays → cond (ltb at arrays) an_array a_function ≡ cond (eqb n 0) a_function an_array
more_arrays zero at arrays l = rw (le-ltb at arrays (omega arith)) refl
more_arrays (suc n) at arrays l = rw (lt-ltb at arrays (omega arith), ne_eqb (suc n) 0 (λ e. omega arith)) refl

arrays_come : (π : ℕ → ℕ) {ns : List ℕ} → Each (λ n. (1 ≤ n) × (n ≤ 4096)) ns → (s : Scan) (at : ℕ) (c : Code)
    → s.due ≡ cond (eqb (length ns) 0) a_function an_array → s.known ≡ [] → at + length ns ≡ suc s.arrays
    → Comes s at (tape_arrays ns c) a_function π [] c
unfolding tape_arrays next arrayed asks due more write
arrays_come π none s at c d k l =
    record { state = s; place = at; is = refl; now = d; functions = refl; arrays = refl; knows = rw k (knows_none π) }
arrays_come π (one {x} {xs} h r) s at c d k l =
    let array_due = rw (ne_eqb (suc (length xs)) 0 (λ e. omega arith)) at d in
    let range = (and-eq-true_iff _ _).1 (le-leb 1 x h.0, le-leb x 4096 h.1) in
    let fine : Met s (array x) = record { range = range; loops = refl; operands = refl; slot = refl } in
    let is = goes_on s at (array x) (tape_arrays xs c) (ap more array_due) (ap (λ (w : Due). due w 2) array_due) fine in
    let b = arrays_come π r (arrayed s at) (at + 1) c (more_arrays (length xs) at s.arrays l) k (omega arith) in
    record { state = b.state; place = b.place; is = is ∙ b.is; now = b.now; functions = b.functions; arrays = b.arrays; knows = b.knows }

-- ---- the whole tape
ended : (p : CProgram) → Limits p → (s : Scan) (at : ℕ) → s.due ≡ nothing → Knows s.known (params_at p.funcs) (steps_of p)
    → scan s at [] ≡ Ok (steps_exposed p)
unfolding scan at_end more steps_exposed steps_of
ended p l s at d k =
    let e : length s.known - 1 ≡ length p.funcs - 1 = omega (arith, knows_length k, steps_length [] p.funcs) in
    rw (d, e)
    (most_within s.known _ (rw k.all_steps l.within) ∙ ap (λ (n : ℕ). Ok n) (knows_steps k (length p.funcs - 1)))

scanned : (p : CProgram) → Sound p → Limits p → scan start 0 (map write (instructions p)) ≡ Ok (steps_exposed p)
unfolding instructions next headed start asks due more write steps_of
scanned p h l =
    let fs = p.funcs in
    let ns = p.arrays in
    let functions = (and-eq-true_iff _ _).1 (le-leb 1 (length fs) l.head.some_functions, le-leb (length fs) 16 l.head.few_functions) in
    let range = (and-eq-true_iff _ _).1 (functions, le-leb (length ns) 8 l.head.few_arrays) in
    let fine : Met start (program (length fs) (length ns)) = record { range = range; loops = refl; operands = refl; slot = refl } in
    let a = arrays_come (params_at fs) l.head.each_array (headed (length fs) (length ns)) 1 (tape_fs fs) refl refl (omega arith) in
    let all = zero-add (length fs) ∙ sym a.functions in
    let params : (i : ℕ) → params_at fs (0 + i) ≡ params_at fs i = λ i. ap (params_at fs) (zero-add i) in
    let b = fs_come (params_at fs) h a.state a.place [] a.now a.knows (knows_length a.knows) all params (rw a.arrays l.funcs) in
    goes_on start 0 (program (length fs) (length ns)) (tape_arrays ns (tape_fs fs)) refl refl fine
    ∙ a.is ∙ b.is ∙ ended p l b.state b.place b.now b.knows

pub admitted : (p : CProgram) → Sound p → Limits p → check (tape p) ≡ Ok (steps_exposed p)
unfolding check tape words instructions
admitted p h l =
    let xs = map write (instructions p) in
    let four = simp length-map at (words_length xs) in
    let size = (sized_iff 131072 (length (words_of xs))).1 (omega arith, omega arith, omega (arith, l.records)) in
    rw (size, records_words xs) (scanned p h l)

-- a tape is accepted exactly if it is the tape of such a tree
pub accepted_exactly : (t : List ℕ) (m : ℕ) → (check t ≡ Ok m) ↔ ProgramOf t m
accepted_exactly t m = (accepted_is_program t m, λ q. rw (q.words_are, q.steps) (admitted q.program q.sound q.limits))
