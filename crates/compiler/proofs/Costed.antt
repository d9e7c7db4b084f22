-- The walk over the table of a program leaves the tape's words, and the answer is the program's: 12, 13 or the tape. Assumes nothing.
use mathlib.Core.Path.{◌≡◌, refl, sym, ap, ◌∙◌}
use mathlib.Core.Bool.{Bool, true, false}
use mathlib.Core.List.{List, [], ◌∷◌, map}
use Prim.Native.Nat.{ℕ, suc, ◌+◌, ◌*◌, ◌≤◌}
use native.Mathlib.Omega.{arith}
use borrow.Author.Tests.{leb-true, leb-false}
use lib.Dec.{leb}
use lib.ListN.{length, replicate, length-map}
use lib.Seq.{sets}
use Rattle.word.specs.Records.{rec, records, records_of}
use Rattle.word.specs.declared.Record.{Record}
use Rattle.word.proofs.Memory.{Words}
use Rattle.word.proofs.Records.{words_length, records_words}
use Rattle.script.specs.Tree.{Program}
use Rattle.script.specs.Stage.{or_else, over_program}
use Rattle.script.specs.Scope.{scope_f}
use Rattle.script.specs.Types.{type_f}
use Rattle.script.specs.Stores.{stores as storage}
use Rattle.script.specs.Parse.{parsed, read_table}
use Rattle.script.specs.Written.{list_arrays, listing, table, Within}
use Rattle.script.specs.Stage.{First}
use Rattle.script.proofs.Leading.{from}
use Rattle.script.proofs.Exactly.{written_read}
use Rattle.scoping.proofs.Found.{finds}
use Rattle.tape.specs.Instruction.{Code, program, array, write, words}
use Rattle.tape.specs.Tape.{tape_arrays, instructions, tape}
use Rattle.tape.specs.Steps.{most, steps_exposed}
use Rattle.tape.proofs.Sizes.{tape_fs_records}
use Rattle.translation.specs.Translate.{FDEFT, translate}
use Rattle.translation.specs.Compile.{costs, stages, first_of, written, unless_fault, compile_by, compile}
use Rattle.emitting.specs.Emitting.{Sheet, place, puts}
use Rattle.emitting.specs.Walking.{Desk, desk}
use Rattle.costing.specs.Totals.{cost_of}
use Rattle.costing.proofs.Totalled.{tape_records, counted_is, twelve, deeps_are}
use Rattle.compiler.specs.Writing.{rolls, copy, walk_fs, blank, walk_p, answered, known, write_out}
use Rattle.compiler.proofs.Tables.{copy_found, walk_p_found, answers_12, answers_13, answers_tape}
use Rattle.compiler.proofs.Laying.{run, bare, run_fits}
use Rattle.compiler.proofs.Rolling.{code_fs, funcs_walked}
use Rattle.compiler.proofs.Depths.{Right, deeps_right, code_right, code_records}
use Rattle.translation.proofs.Sizes.{tape_most}
use Rattle.std.specs.Prelude.{Ok, Err}
use Rattle.word.specs.Refusals.{refuse}
use Rattle.stages.proofs.TypeExprs.{or_clean}
use Rattle.script.specs.Shape.{times}

-- ---- PROGRAM and the arrays
lay_a : List ℕ → Sheet → Sheet
lay_a [] s = s
lay_a (n ∷ ns) s = lay_a ns (puts (array n) s)

run_a : (ns : List ℕ) (c : Code) (s : Sheet) → run (tape_arrays ns c) s ≡ run c (lay_a ns s)
unfolding tape_arrays run lay_a
run_a [] c s = refl
run_a (n ∷ ns) c s = run_a ns c (puts (array n) s)

copy_one : (t : List ℕ) (s : Sheet) (at : ℕ) {x : Record} {rest : List Record} → from t at ≡ x ∷ rest
    → (copy t (desk s at) ≡ desk (place x s) (at + 1)) × (from t (at + 1) ≡ rest)
copy_one t s at is =
    let (read, then) = finds t at is in
    (copy_found t (desk s at) _ _ read, then)

arrays_walked : (t ns : List ℕ) (s : Sheet) (at end : ℕ) {rest : List Record} → from t at ≡ list_arrays ns rest → end ≡ at + length ns
    → (times (length ns) (copy t) (desk s at) ≡ desk (lay_a ns s) end) × (from t end ≡ rest)
unfolding list_arrays times puts write lay_a
arrays_walked t [] s at end is e = let q : end ≡ at = omega arith in rw q (refl, is)
arrays_walked t (n ∷ ns) s at end is e =
    let (q, then) = copy_one t s at is in
    let (q₁, rest) = arrays_walked t ns (puts (array n) s) (at + 1) end then (omega arith) in
    (ap (times (length ns) (copy t)) q ∙ q₁, rest)

same_size : (ns : List ℕ) (c d : Code) → length c ≡ length d → length (tape_arrays ns c) ≡ length (tape_arrays ns d)
unfolding tape_arrays
same_size [] c d e = e
same_size (n ∷ ns) c d e = ap suc (same_size ns c d e)

-- ---- the whole table, whatever the row of depths says
code_p : List ℕ → Program → Code
code_p deeps p = program (length p.funcs) (length p.arrays) ∷ tape_arrays p.arrays (code_fs deeps 0 p.funcs)

module _ (t : List ℕ) (p : Program) (w : Within p) (is : records_of t ≡ listing p) where
  table_walked : (deeps out : List ℕ) → walk_p t deeps out ≡ (run (code_p deeps p) (bare out 0)).words
  unfolding listing code_p run puts write
  table_walked deeps out =
      let nf = length p.funcs in
      let na = length p.arrays in
      let row : List ℕ = replicate 16 0 in
      let s₁ = place (rec 1 nf na 0) (blank out) in
      let s₂ = lay_a p.arrays s₁ in
      let (q, then) = copy_one t (blank out) 0 is in
      let (q₁, rest) = arrays_walked t p.arrays s₁ 1 (1 + na) then refl in
      walk_p_found t deeps out _ _ (finds t 0 is).0
      ∙ ap (λ (z : Desk). walk_fs t deeps nf 0 (rolls (times na (copy t) z) row)) q ∙ ap (λ (z : Desk). walk_fs t deeps nf 0 (rolls z row)) q₁
      ∙ funcs_walked t deeps w.funcs s₂ (1 + na) rest ∙ ap (λ (z : Sheet). z.words) (sym (run_a p.arrays (code_fs deeps 0 p.funcs) s₁))

  -- ---- the figures
  code_p_records : (deeps : List ℕ) → length (code_p deeps p) ≡ length (instructions (translate p))
  unfolding code_p instructions translate
  code_p_records deeps = ap suc (same_size p.arrays _ _ (code_records p.funcs deeps 0 ∙ sym (tape_fs_records (map FDEFT p.funcs))))

  code_p_right : {deeps : List ℕ} → Right deeps 0 p.funcs → code_p deeps p ≡ instructions (translate p)
  unfolding code_p instructions translate
  code_p_right right = rw (length-map p.funcs FDEFT, code_right w.funcs right) refl

  tape_words : length (tape (translate p)) ≡ length (instructions (translate p)) * 4
  unfolding tape words
  tape_words =
      let c = instructions (translate p) in
      omega (arith, words_length (map write c), length-map c write)

  few : (deeps : List ℕ) → 0 + length (code_p deeps p) ≤ most
  few deeps = omega (arith, code_p_records deeps, tape_most p w)

  -- over an output that is long enough
  wet_words : (deeps out : List ℕ) → Right deeps 0 p.funcs → length (tape (translate p)) ≤ length out → walk_p t deeps out ≡ sets out 0 (tape (translate p))
  unfolding tape
  wet_words deeps out right room =
      let fits = run_fits (code_p deeps p) out 0 (few deeps) (omega (arith, code_p_records deeps, tape_words)) in
      table_walked deeps out ∙ ap (λ (s : Sheet). s.words) fits ∙ ap (λ (c : Code). sets out 0 (words c)) (code_p_right right)

-- ---- a table that was read
module _ (t : List ℕ) (w : Words t) (p : Program) (i : ℕ) (e : read_table t ≡ parsed p i) where
  stands : records_of t ≡ listing p
  unfolding table
  stands = ap records_of (sym (written_read t p i w e).0) ∙ records_words (listing p)

  within_ranges : Within p
  within_ranges = (written_read t p i w e).1

  -- the cost: 12, or the records needed and the exposed function's steps
  cost_is : (r : First) → costs p ≡ r → (known t).cost ≡ cost_of r (records (tape (translate p))) (steps_exposed (translate p))
  cost_is r c = counted_is t w p i e (replicate 16 0) ∙ ap (λ (f : First). cost_of f (records (tape (translate p))) (steps_exposed (translate p))) c

  -- the tape's words
  pub emitted_is : costs p ≡ Ok tt → (out : List ℕ) → length (tape (translate p)) ≤ length out
      → walk_p t (known t).depths out ≡ sets out 0 (tape (translate p))
  emitted_is clean out room =
      let row : List ℕ = replicate 16 0 in
      let right : Right (known t).depths 0 p.funcs = rw (deeps_are t w p i e row clean) (deeps_right p.funcs row 0 (omega (arith, within_ranges.functions))) in
      wet_words t p within_ranges stands (known t).depths out right room

  -- ---- the answer, by the cost
  wet_answer : (out : List ℕ) (b : Bool) → leb (length (tape (translate p))) (length out) ≡ b → costs p ≡ Ok tt → write_out t out ≡ written b p out
  unfolding written cost_of
  wet_answer out true h clean =
      let room = leb-true (length (tape (translate p))) (length out) h in
      answers_tape t out _ (cost_is (Ok tt) clean) (omega (arith, tape_records p, tape_words t p within_ranges stands)) ∙ ap (answered _) (emitted_is clean out room)
  wet_answer out false h clean =
      let short = leb-false (length (tape (translate p))) (length out) h in
      answers_13 t out _ (cost_is (Ok tt) clean) (omega (arith, tape_records p, tape_words t p within_ranges stands))

  answer_by : (out : List ℕ) (r : First) → costs p ≡ r → write_out t out ≡ unless_fault r p out
  unfolding unless_fault cost_of
  answer_by out (Ok u) c = wet_answer out (leb (length (tape (translate p))) (length out)) refl c
  answer_by out (Err r) c =
      answers_12 t out _ (cost_is (Err r) c) ∙ ap (λ (k : ℕ). answered (refuse k r.place) out) (sym (twelve t w p i e (replicate 16 0) r.number r.place c))

  -- 12, 13, or the tape
  pub written_is : (out : List ℕ) → write_out t out ≡ unless_fault (costs p) p out
  written_is out = answer_by out (costs p) refl

  -- where no stage before it finds a fault, this is the compiler's whole answer
  pub compiled_is : over_program scope_f p ≡ Ok tt → over_program type_f p ≡ Ok tt → storage p ≡ Ok tt → (out : List ℕ) → write_out t out ≡ compile t out
  unfolding compile compile_by stages first_of or_else
  compiled_is scope types stored out = written_is out ∙ rw (e, scope, types, stored, sym (or_clean (costs p))) refl
