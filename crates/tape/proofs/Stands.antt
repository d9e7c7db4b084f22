-- Where the scan of a tape stands, told by trees; and what PROGRAM, ARRAY, CFUNC and RET do to them. Assumes nothing.
use mathlib.Core.Path.{◌≡◌, refl, ap, ◌∙◌}
use mathlib.Core.Bool.{Bool, true, false, cond, ◌&&◌, and-eq-true_iff}
use mathlib.Core.List.{List, [], ◌∷◌, ◌++◌}
use Prim.Native.Nat.{ℕ, suc, ◌≤◌, ◌<◌}
use native.Mathlib.Omega.{arith}
use borrow.Author.Tests.{eqb-true, eqb-false, leb-true, ltb-true, ltb-false, lt-ltb, le-ltb}
use lib.Dec.{ltb, leb, eqb}
use lib.ListN.{length, length-append}
use Rattle.word.specs.Slots.{begin}
use Rattle.tape.specs.Core.{SKIP, CFunc}
use Rattle.tape.specs.Instruction.{Code, program, array, cfunc, ret}
use Rattle.tape.specs.Tape.{tape_s, tape_f, tape_arrays}
use Rattle.tape.specs.Steps.{steps_s, steps_f, steps_from}
use Rattle.tape.specs.Scan.{a_program, an_array, a_function, a_body, nothing, Known, Scan, opening, headed, arrayed, enters, returns, next}
use Rattle.tape.specs.Faults.{readable, asks}
use Rattle.tape.proofs.Asked.{Met}
use Rattle.tape.proofs.Sound.{after_s, SoundS, SoundF, params_at}
use Rattle.tape.proofs.Limits.{none, FitsS, FitsHead, FitsF}
use Rattle.tape.proofs.Knowing.{knows_none}
use Rattle.tape.proofs.Waiting.{stack_tape, stack_steps, Setting, empty}
use Rattle.tape.proofs.Half.{levels_tape, outermost, outside, Half, half_tape, whole_steps}
use Rattle.tape.proofs.Finished.{funcs_tape, arrays_more, each_more, end, Finished, steps_at, finish}

-- the setting of the present function, after these
abbrev pub setting_of : List CFunc → Scan → Setting
setting_of fs s = record { π = params_at fs; κ = steps_at fs; k = length fs; params = s.params; slots = s.slots; arrays = s.arrays }

-- in a function: those before it are finished, and its body is read half
pub record Inside (whole rest : Code) (s : Scan) : Type 0 where
  pub from : Code
  pub done : Finished s.functions s.arrays s.known whole from
  pub half : Half (setting_of done.funcs s) s.body
  pub is : from ≡ cfunc s.params s.slots ∷ half_tape half rest
  pub fewer : length s.known < s.functions
  pub few_params : s.params ≤ 8
  pub among : s.params ≤ s.slots
  pub few_slots : s.slots ≤ 64

-- before record `at`: the tape `whole` was read up to `rest`
pub data Stands (whole rest : Code) (s : Scan) (at : ℕ) : Type 0 where
  program_due : s.due ≡ a_program → whole ≡ rest → at ≡ 0 → Stands whole rest s at
  array_due : s.due ≡ an_array → (ns : List ℕ) → FitsHead s.functions s.arrays ns → s.known ≡ [] → suc (length ns) ≡ at → at ≤ s.arrays
      → whole ≡ program s.functions s.arrays ∷ tape_arrays ns rest → Stands whole rest s at
  function_due : s.due ≡ a_function → Finished s.functions s.arrays s.known whole rest → length s.known < s.functions
      → Stands whole rest s at
  body_due : s.due ≡ a_body → Inside whole rest s → Stands whole rest s at
  nothing_due : s.due ≡ nothing → Finished s.functions s.arrays s.known whole rest → length s.known ≡ s.functions
      → Stands whole rest s at

module _ {whole rest : Code} where
  -- ---- PROGRAM and ARRAY: so many arrays were read; more are due, or the first function
  no_function : {functions arrays : ℕ} {known : List Known} (ns : List ℕ) → FitsHead functions arrays ns → known ≡ [] → length ns ≡ arrays
      → whole ≡ program functions arrays ∷ tape_arrays ns rest → Finished functions arrays known whole rest
  unfolding steps_from funcs_tape
  no_function ns h k all is =
      record {
        lengths = ns;
        funcs = [];
        is = is;
        head = h;
        all_arrays = all;
        counted = ap length k;
        knows = rw k (knows_none _);
        sounds = end;
        fits = none;
      }

  headed_by : (s : Scan) (at : ℕ) (ns : List ℕ) (more : Bool) → s.due ≡ cond more an_array a_function → ltb at s.arrays ≡ more
      → FitsHead s.functions s.arrays ns → s.known ≡ [] → length ns ≡ at → at ≤ s.arrays
      → whole ≡ program s.functions s.arrays ∷ tape_arrays ns rest → Stands whole rest s (suc at)
  headed_by s at ns true d b h k n l is = array_due d ns h k (ap suc n) (ltb-true at s.arrays b) is
  headed_by s at ns false d b h k n l is =
      let all = ltb-false at s.arrays b in
      function_due d (no_function ns h k (omega arith) is) (rw k h.some_functions)

  pub on_program : (s : Scan) (p q : ℕ) → Met s (program p q) → whole ≡ program p q ∷ rest → Stands whole rest (next s 0 (program p q)) 1
  unfolding next headed asks tape_arrays
  on_program s p q m is =
      let (a, eight) = (and-eq-true_iff (leb 1 p && leb p 16) (leb q 8)).0 m.range in
      let (some, few) = (and-eq-true_iff (leb 1 p) (leb p 16)).0 a in
      by (eqb q 0) refl refl
      (record { some_functions = leb-true 1 p some; few_functions = leb-true p 16 few; few_arrays = leb-true q 8 eight; each_array = none })
    where
      by : (b : Bool) → eqb q 0 ≡ b → (headed p q).due ≡ cond b a_function an_array → FitsHead p q [] → Stands whole rest (headed p q) 1
      by true e d h = headed_by (headed p q) 0 [] false d (le-ltb 0 q (omega (arith, eqb-true q 0 e))) h refl refl (omega arith) is
      by false e d h =
          let n = eqb-false q 0 e in
          headed_by (headed p q) 0 [] true d (lt-ltb 0 q (omega arith)) h refl refl (omega arith) is

  pub on_array : (s : Scan) (at n : ℕ) → Met s (array n) → (ns : List ℕ) → FitsHead s.functions s.arrays ns → s.known ≡ []
      → suc (length ns) ≡ at → at ≤ s.arrays → whole ≡ program s.functions s.arrays ∷ tape_arrays ns (array n ∷ rest)
      → Stands whole rest (next s at (array n)) (suc at)
  unfolding next arrayed asks
  on_array s at n m ns h k l few is =
      let (a, b) = (and-eq-true_iff (leb 1 n) (leb n 4096)).0 m.range in
      let more : FitsHead s.functions s.arrays (ns ++ n ∷ []) =
      record {
        some_functions = h.some_functions;
        few_functions = h.few_functions;
        few_arrays = h.few_arrays;
        each_array = each_more h.each_array (leb-true 1 n a, leb-true n 4096 b);
      } in
      headed_by (arrayed s at) at (ns ++ n ∷ []) (ltb at s.arrays) refl refl more k (omega (arith, length-append ns (n ∷ []))) few (rw arrays_more is)

  -- ---- CFUNC
  pub on_cfunc : (s : Scan) (at p q : ℕ) → Met s (cfunc p q) → Finished s.functions s.arrays s.known whole (cfunc p q ∷ rest)
      → length s.known < s.functions → Stands whole rest (next s at (cfunc p q)) (suc at)
  unfolding next enters asks opening half_tape levels_tape tape_s stack_tape steps_s stack_steps SoundS FitsS after_s
  on_cfunc s at p q m d l =
      let (a, slots) = (and-eq-true_iff (leb p 8 && leb p q) (leb q 64)).0 m.range in
      let (params, among) = (and-eq-true_iff (leb p 8) (leb p q)).0 a in
      body_due refl
      (record {
        from = cfunc p q ∷ rest;
        done = d;
        half =
            record {
              levels = [];
              begins = begin p;
              body = SKIP;
              stack = [];
              nested = outermost;
              sound = tt;
              fits = tt;
              waits = empty;
              scope = refl;
              operands = refl;
              steps = refl;
            };
        is = refl;
        fewer = l;
        few_params = leb-true p 8 params;
        among = leb-true p q among;
        few_slots = leb-true q 64 slots;
      })

  -- ---- RET: the body becomes a function's; one more is due, or nothing
  left : (s : Scan) (at n : ℕ) (last : Bool) → s.due ≡ cond last nothing a_function → eqb n s.functions ≡ last → length s.known ≡ n
      → n ≤ s.functions → Finished s.functions s.arrays s.known whole rest → Stands whole rest s at
  left s at n true d b k l done = nothing_due d done (k ∙ eqb-true n s.functions b)
  left s at n false d b k l done = let e = eqb-false n s.functions b in function_due d done (omega arith)

  pub on_ret : (s : Scan) (at x : ℕ) (b : Inside whole (ret x ∷ rest) s) → x < s.slots → length s.body.loops ≡ 0 → b.half.stack ≡ []
      → readable (s.body.scope x) ≡ true → Stands whole rest (next s at (ret x)) (suc at)
  unfolding next returns steps_f half_tape levels_tape stack_tape tape_f
  on_ret s at x b l flat alone seen =
      let h = b.half in
      let (no_levels, begins) = outside h.nested flat in
      let f : CFunc = record { params = s.params; slots = s.slots; body = h.body; ret = x } in
      let is : b.from ≡ tape_f f rest = rw alone at (rw no_levels at b.is) in
      let sound : SoundF _ _ f = record { body = rw begins at h.sound; ret = rw begins at (rw h.scope at seen) } in
      let fits : FitsF s.arrays f =
      record { params = b.few_params; among = b.among; slots = b.few_slots; body = rw no_levels at h.fits; ret = l } in
      let done = rw (← whole_steps h alone) at (finish f s.place b.done is sound fits) in
      let g : Known = record { params = s.params; steps = suc s.body.steps; place = s.place } in
      let n = suc (length s.known) in
      left (returns s) (suc at) n (eqb n s.functions) refl refl (omega (arith, length-append s.known (g ∷ []))) b.fewer done
