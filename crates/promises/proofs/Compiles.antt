-- The compiler's promises (demands 1 to 3). The contract of `compiler::compile` is that its answer and the words of the output at exit are `compile`'s, which is
-- what these theorems speak of. Assumes nothing.
use mathlib.Core.Path.{◌≡◌, refl, sym, ap, ◌∙◌}
use mathlib.Core.Bool.{Bool, true, false}
use mathlib.Core.List.{List, [], ◌∷◌, ◌++◌, map}
use Prim.Native.Nat.{ℕ, ◌+◌, ◌*◌, ◌≤◌}
use native.Mathlib.Omega.{arith}
use borrow.Author.Tests.{leb-true}
use lib.Dec.{leb}
use lib.ListN.{length, take, drop}
use lib.Seq.{sets, sets-eq, length-sets, take-append_seam, drop-append_seam}
use Rattle.word.specs.Records.{records}
use Rattle.word.specs.Bytes.{total}
use Rattle.word.proofs.Memory.{Words, Bytes}
use Rattle.word.proofs.Records.{words_length}
use Rattle.script.specs.Tree.{Func, Program}
use Rattle.script.specs.Parse.{Parsed, parsed, refused, read_table}
use Rattle.script.specs.Plain.{plain}
use Rattle.script.specs.Written.{Within}
use Rattle.script.specs.Stage.{First}
use Rattle.script.proofs.Exactly.{written_read}
use Rattle.tape.specs.Tape.{instructions, tape}
use Rattle.tape.specs.Instruction.{Code, write, words, code_of}
use Rattle.tape.specs.Steps.{steps_exposed}
use Rattle.tape.specs.Check.{check}
use Rattle.tape.specs.Entries.{Entry, lengths_of, exposed}
use Rattle.tape.proofs.Running.{opening, standing}
use Rattle.tape.proofs.Counted.{stands_done, total_steps}
use Rattle.tape.proofs.Written.{code_words}
use Rattle.tape.proofs.Entering.{entry_of, last_of, tape_lengths, tape_exposed}
use Rattle.translation.specs.Translate.{translate, FDEFT}
use Rattle.translation.specs.Compile.{stages, first_of, written, unless_fault, compile_by, compile}
use Rattle.translation.specs.Compile.{Compiled}
use Rattle.translation.proofs.Accepted.{accepted_correct, accepted_translated}
use Rattle.translation.proofs.Limits.{tape_accepted as accepted_tape}
use Rattle.machine.specs.Run.{begin, after, result_of, run}
use Rattle.machine.specs.declared.Ran.TheVariants.{Done}
use Rattle.promises.specs.Compiles.{tape_left, TapeOf, takes}
use Rattle.promises.specs.Runs.{Runs}
use Rattle.promises.proofs.Runs.{stands, Counted, counted}
use Rattle.std.specs.Prelude.{Ok, Err}
use Rattle.word.specs.Refusals.{refuse}
use Rattle.translation.specs.Compile.{announced}
use Rattle.translation.specs.declared.Tape.{Tape}

clash : {A : Type 0} {number place n steps : ℕ} → ◌≡◌ {A = Compiled} (refuse number place) (Ok (announced n steps)) → A
clash e = let z : ◌≡◌ {A = ℕ} 0 1 = cc in absurd (omega arith)

-- what an accepted answer comes from
pub record Comes (table out : List ℕ) (n steps : ℕ) : Type 0 where
  pub script : Program
  pub ends : ℕ
  pub reads : read_table table ≡ parsed script ends
  pub stages_pass : first_of stages script ≡ Ok tt
  pub room : length (tape (translate script)) ≤ length out
  pub records_are : n ≡ records (tape (translate script))
  pub steps_are : steps ≡ steps_exposed (translate script)
  pub out_is : (compile table out).out ≡ sets out 0 (tape (translate script))

told : {v w : Tape} → ◌≡◌ {A = Compiled} (Ok v) (Ok w) → v ≡ w
told e = cc

module _ (table out : List ℕ) (n steps : ℕ) (h : (compile table out).answer ≡ Ok (announced n steps)) where
  comes : Comes table out n steps
  unfolding compile compile_by unless_fault written
  comes = reading (read_table table) refl
    where
      roomy : (p : Program) (i : ℕ) (b : Bool) → leb (length (tape (translate p))) (length out) ≡ b → read_table table ≡ parsed p i → first_of stages p ≡ Ok tt → Comes table out n steps
      roomy p i true q e f =
          let a : ◌≡◌ {A = Compiled} (Ok (announced (records (tape (translate p))) (steps_exposed (translate p)))) (Ok (announced n steps)) = rw (e, f, q) at h in
          record {
            script = p;
            ends = i;
            reads = e;
            stages_pass = f;
            room = leb-true _ _ q;
            records_are = ap (λ (w : Tape). w.records) (told (sym a));
            steps_are = ap (λ (w : Tape). w.steps) (told (sym a));
            out_is = rw (e, f, q) refl;
          }
      roomy p i false q e f = clash (rw (e, f, q) at h)

      staging : (p : Program) (i : ℕ) (c : First) → first_of stages p ≡ c → read_table table ≡ parsed p i → Comes table out n steps
      staging p i (Ok u) f e = roomy p i (leb (length (tape (translate p))) (length out)) refl e f
      staging p i (Err r) f e = clash (rw (e, f) at h)

      reading : (r : Parsed Program) → read_table table ≡ r → Comes table out n steps
      reading (parsed p i) e = staging p i (first_of stages p) refl e
      reading (refused number place) e = clash (rw e at h)

-- four words for each record
four_words : (c : Code) → length (words c) ≡ records (words c) * 4
unfolding words
four_words c = let n = words_length (map write c) in omega arith

module _ (table out : List ℕ) (n steps : ℕ) (given : Words table) (h : (compile table out).answer ≡ Ok (announced n steps)) where
  -- ---- TAPE OF RULES: the accepted output is the tape of the translated script, and nothing else of the output changes
  pub tape_of_rules : TapeOf table out n steps
  unfolding tape
  tape_of_rules =
      let c = comes table out n steps h in
      let p = c.script in
      let t = tape (translate p) in
      let four = four_words (instructions (translate p)) in
      let k : length t ≡ n * 4 = omega (arith, c.records_are) in
      let z : 0 + length t ≡ length t = omega arith in
      let eq : (compile table out).out ≡ t ++ drop (length t) out = c.out_is ∙ sets-eq t out 0 (omega (arith, c.room)) ∙ ap (λ (j : ℕ). t ++ drop j out) z in
      record {
        script = p;
        reads = c.reads ∙ ap (λ (i : ℕ). parsed p i) (written_read table p c.ends given c.reads).2;
        passes = c.stages_pass;
        is_tape = ap (λ (j : ℕ). take j (compile table out).out) (sym k) ∙ ap (take (length t)) eq ∙ take-append_seam t (drop (length t) out);
        unchanged = ap (λ (j : ℕ). drop j (compile table out).out) (sym k) ∙ ap (drop (length t)) eq ∙ drop-append_seam t (drop (length t) out) ∙ ap (λ (j : ℕ). drop j out) k;
        as_long = ap length c.out_is ∙ length-sets out 0 t;
        records_are = c.records_are;
        steps_are = c.steps_are;
      }

  -- ---- TAPE ACCEPTED: the machine's check accepts the tape, with exactly the steps announced
  pub tape_accepted : check (tape_left table out n) ≡ Ok steps
  tape_accepted =
      let r = tape_of_rules in
      ap check r.is_tape ∙ accepted_tape r.script (written_read table r.script (records table) given r.reads).1 r.passes
      ∙ ap (λ (k : ℕ). Ok k) (sym r.steps_are)

-- ---- the last function, in the script and on the tape
last_takes : (f : Func) (fs : List Func) → (last_of (FDEFT f) (map FDEFT fs)).params ≡ takes (f ∷ fs)
unfolding last_of takes FDEFT
last_takes f [] = refl
last_takes f (g ∷ fs) = last_takes g fs

exposed_takes : (p : Program) → 1 ≤ length p.funcs → (exposed (instructions (translate p))).params ≡ takes p.funcs
unfolding translate entry_of
exposed_takes p h = by p.funcs refl h
  where
    by : (fs : List Func) → p.funcs ≡ fs → 1 ≤ length fs → (exposed (instructions (translate p))).params ≡ takes fs
    by [] e l = absurd (omega arith)
    by (f ∷ fs) e l = ap (λ (x : Entry). x.params) (tape_exposed (translate p) (FDEFT f) (map FDEFT fs) (ap (map FDEFT) e)) ∙ last_takes f fs

-- ---- MEANS: the tape of an accepted table, run with a limit of at least its steps, is done with the plain value, the plain bytes and exactly the steps announced
module _ (table out arguments memory : List ℕ) (n steps : ℕ) (p : Program) (given : Words table) (h : (compile table out).answer ≡ Ok (announced n steps))
    (reads : read_table table ≡ parsed p (records table)) (arguments_fit : length arguments ≡ takes p.funcs) (memory_fits : length memory ≡ total p.arrays) where
  same_script : (tape_of_rules table out n steps given h).script ≡ p
  same_script = let e = sym (tape_of_rules table out n steps given h).reads ∙ reads in cc

  in_range : Within p
  in_range = (written_read table p (records table) given reads).1

  code_is : code_of (tape_left table out n) ≡ instructions (translate p)
  unfolding tape
  code_is =
      let r = tape_of_rules table out n steps given h in
      ap code_of (r.is_tape ∙ ap (λ (q : Program). tape (translate q)) same_script) ∙ code_words (instructions (translate p))

  -- the run is not refused: so `counted` and `lockstep` hold of it
  pub compiled_runs : Runs (tape_left table out n) arguments memory steps
  unfolding translate
  compiled_runs =
      record {
        accepted = tape_accepted table out n steps given h;
        arguments_fit = arguments_fit ∙ sym (exposed_takes p in_range.some) ∙ sym (ap (λ (c : Code). (exposed c).params) code_is);
        memory_fits = memory_fits ∙ ap total (sym (tape_lengths (translate p)) ∙ sym (ap lengths_of code_is));
      }

  -- ---- COUNTED for compiled tapes: done after exactly the steps announced, whatever the values
  pub compiled_counted : Counted (tape_left table out n) arguments memory steps
  compiled_counted = counted (tape_left table out n) arguments memory steps compiled_runs

  stages_pass : first_of stages p ≡ Ok tt
  stages_pass = ap (first_of stages) (sym same_script) ∙ (tape_of_rules table out n steps given h).passes

  pub means : (limit : ℕ) → steps ≤ limit → Words arguments → Bytes memory
      → run (tape_left table out n) arguments memory limit ≡ record { answer = Ok (Done (plain p arguments memory).0 steps); memory = (plain p arguments memory).1 }
  unfolding after begin result_of
  means limit l words bytes =
      let t = tape_left table out n in
      let r = tape_of_rules table out n steps given h in
      let e : steps ≡ steps_exposed (translate p) = r.steps_are ∙ ap (λ (q : Program). steps_exposed (translate q)) same_script in
      let s = accepted_correct p in_range stages_pass words bytes (opening memory) refl in
      let there : after (code_of t) arguments memory limit ≡ _ =
      ap (λ (c : Code). standing c arguments memory limit) code_is
      ∙ stands_done (translate p) (accepted_translated p in_range stages_pass) arguments memory limit (omega arith) in
      stands t arguments memory steps compiled_runs limit ∙ ap (result_of (code_of t)) there
      ∙ rw (s.value, s.bytes, total_steps (translate p) arguments memory, e) refl
