-- The count of a table that was read: of each function and of all of them, to the first that is over the limit; and THE THEOREM, that the cost is the program's
-- (12, or the figures). Assumes nothing.
use mathlib.Core.Path.{◌≡◌, refl, sym, ap, ◌∙◌, fun_ext, subst}
use mathlib.Core.Bool.{Bool, true, false}
use mathlib.Core.List.{List, [], ◌∷◌, ◌++◌, map}
use Prim.Native.Nat.{ℕ, zero, suc, ◌+◌, ◌-◌, ◌≤◌, ◌<◌, max}
use native.Mathlib.Omega.{arith}
use native.Mathlib.Numerals.{add-one}
use borrow.Author.Tests.{leb-true}
use lib.Dec.{leb}
use lib.ListN.{length, get_or, replicate, set as keep, length-set, length-map}
use Rattle.word.specs.Records.{rec, records}
use Rattle.word.specs.declared.Record.{Record}
use Rattle.word.proofs.Memory.{Words}
use Rattle.word.proofs.Records.{words_length}
use Rattle.script.specs.Tree.{Func, Program, size_f, size_s}
use Rattle.script.specs.Parse.{parsed, entered, passed, read_table}
use Rattle.script.specs.Stage.{first_func}
use Rattle.script.specs.Written.{list_s, list_funcs, head_of, InFunc, InFuncs, none_left, one_more}
use Rattle.script.specs.declared.Env.{Env}
use Rattle.script.specs.Stage.{First}
use Rattle.script.proofs.Leading.{from}
use Rattle.script.proofs.Walks.{faulty}
use Rattle.script.proofs.Sizes.{size_fs, listing_size}
use Rattle.scoping.specs.Passes.{noted}
use Rattle.scoping.proofs.Found.{finds, lists, begins}
use Rattle.scoping.proofs.Past.{past_s}
use Rattle.tape.specs.Instruction.{write, words}
use Rattle.tape.specs.Tape.{instructions, tape}
use Rattle.tape.specs.Steps.{most, steps_s, steps_f, steps_of, steps_exposed}
use Rattle.tape.specs.Held.{hold}
use Rattle.tape.proofs.Costs.{known_length}
use Rattle.tape.proofs.Counts.{hold_within, hold_hold, hold_leb}
use Rattle.tape.proofs.Sizes.{records_s, records_f, records_fs, instructions_records}
use Rattle.translation.specs.Translate.{layout, STT, depth, FDEFT, translate}
use Rattle.translation.specs.Compile.{within, unless_over, costs}
use Rattle.translation.proofs.Figures.{func_steps}
use Rattle.translation.proofs.Sizes.{func_records, tape_most}
use Rattle.translation.proofs.Heights.{depth_ifs}
use Rattle.costing.specs.Counting.{count}
use Rattle.costing.specs.Totals.{Totals, totals, body_at, keeping, function_at, Outcome, outcome, or_over, functions_from, counted, cost_of}
use Rattle.costing.specs.declared.count.Count.{Count}
use Rattle.translation.specs.Compile.{announced}
use Rattle.word.proofs.Refused.{refused_number, refused_place}
use Rattle.costing.proofs.Turns.{function_found}
use Rattle.costing.proofs.Tallying.{alike, add_held}
use Rattle.costing.proofs.Counted.{stmt_counted}
use Rattle.costing.proofs.Kept.{rest_from, steps_rest, Says, says_more, deeps_after}
use Rattle.std.specs.Prelude.{Ok, Err}
use Rattle.word.specs.Refusals.{refuse}

-- a row keeps what is noted
keeps : (row : List ℕ) (f n : ℕ) → f < 16 → noted row f n ≡ keep row f n
unfolding noted
keeps row f n h = refl

-- ---- one function
module _ (t : List ℕ) where
  func_counted : (v : Env) (g : Func) (κ deeps : List ℕ) (c : Count) (rest : List Record) → InFunc v g → v.func < 16 → size_s g.body ≤ most
      → from t c.at.at ≡ rec 3 g.params g.slots 0 ∷ list_s g.body rest → let k = hold (steps_f (λ i. get_or κ i 0) (FDEFT g)) in
      (function_at t v.func (totals c v.params κ deeps)
      ≡ totals (count (c.at.at + size_f g) (hold (c.records + records_f (FDEFT g))) k (depth g.body)) (keep v.params v.func g.params) (keep κ v.func k)
      (keep deeps v.func (depth g.body))) × (from t (c.at.at + size_f g) ≡ rest)
  unfolding size_f body_at keeping entered
  func_counted v g κ deeps c rest h few short is =
      let f = v.func in
      let z = totals c v.params κ deeps in
      let x = rec 3 g.params g.slots 0 in
      let start = count (c.at.at + 1) (hold (c.records + 6)) 3 0 in
      let (read, on) = finds t c.at.at is in
      let body = stmt_counted (entered v (head_of g)) κ t (omega arith) g.slots g.body 16 0 start rest on h.deep h.body short
      (hold_hold (c.records + 6), hold_within 3 (omega arith)) (omega arith) in
      let n = steps_s (λ i. get_or κ i 0) (STT (layout g.slots) 0 g.body) in
      let steps : hold (3 + n) ≡ hold (steps_f (λ i. get_or κ i 0) (FDEFT g)) = ap hold (omega (arith, func_steps (λ i. get_or κ i 0) g)) in
      let deep : depth g.body ≤ most = omega (arith, depth_ifs g.body, h.branches) in
      let k = hold (steps_f (λ i. get_or κ i 0) (FDEFT g)) in
      let r = records_s (STT (layout g.slots) 0 g.body) in
      let end : count (c.at.at + 1 + size_s g.body) (hold (hold (c.records + 6) + r)) (hold (3 + n)) (max 0 (0 + depth g.body))
      ≡ count (c.at.at + suc (size_s g.body)) (hold (c.records + records_f (FDEFT g))) k (depth g.body) =
      alike (omega arith) (add_held c.records 6 r _ (omega (arith, func_records g))) steps (omega arith) in (
        function_found t f z x _ read ∙ ap (λ (b : Count). keeping t f x b z) (body ∙ end)
            ∙ (λ j. totals (count (c.at.at + suc (size_s g.body)) (hold (c.records + records_f (FDEFT g))) k (depth g.body)) (keeps v.params f g.params few j)
            ((ap (noted κ f) (hold_hold (steps_f (λ i. get_or κ i 0) (FDEFT g))) ∙ keeps κ f k few) j)
            ((ap (noted deeps f) (hold_within (depth g.body) deep) ∙ keeps deeps f (depth g.body) few) j)),
        (let e : c.at.at + suc (size_s g.body) ≡ c.at.at + 1 + size_s g.body = omega arith in rw e (past_s t g.body (c.at.at + 1) on)),
      )

-- ---- all functions
-- it agrees with 12: the figures, or the function that is over
pub record Tells (r : First) (o : Outcome) (deeps : List ℕ) (f : ℕ) (fs : List Func) (known : List ℕ) (records steps : ℕ) : Type 0 where
  pub clean : r ≡ Ok tt
      → o ≡ outcome (Ok (announced (hold (records + records_fs (map FDEFT fs))) (get_or (steps ∷ rest_from known (map FDEFT fs)) (length fs) 0))) (deeps_after deeps f fs)
  pub over : (number place : ℕ) → r ≡ refuse number place → (number ≡ 12) × (o.cost ≡ refuse 12 place)

-- none
tells_none : (t κ deeps known params : List ℕ) (c : Count) (at f : ℕ) → hold c.steps ≡ c.steps
    → Tells (within at [] (rest_from known (map FDEFT []))) (functions_from t 0 f (totals c params κ deeps)) deeps f [] known c.records c.steps
unfolding rest_from within functions_from deeps_after records_fs
tells_none t κ deeps known params c at f h =
    record {
      clean =
          λ e.
          let n : c.records ≡ c.records + 0 = omega arith in
          λ i. outcome (Ok (announced (hold (n i)) (h i))) deeps;
      over = λ number place e. absurd (faulty (sym e));
    }

-- one function more: within the limit, or over it
tells_first : (deeps known : List ℕ) (f at : ℕ) (g : Func) (gs : List Func) (records steps : ℕ) (r : First) (y : Totals) (o : Outcome) (b : Bool)
    → let n = steps_f (λ i. get_or known i 0) (FDEFT g) in
    (b ≡ true → Tells r o (keep deeps f (depth g.body)) (suc f) gs (known ++ (n ∷ [])) (hold (records + records_f (FDEFT g))) n)
    → Tells (unless_over b at r) (or_over b at y o) deeps f (g ∷ gs) known records steps
unfolding unless_over or_over deeps_after rest_from records_fs
tells_first deeps known f at g gs records steps r y o true h =
    let rest = h refl in
    let n = steps_f (λ i. get_or known i 0) (FDEFT g) in
    record {
      clean =
          λ e.
          rest.clean e
          ∙ ap (λ (k : ℕ). outcome (Ok (announced k (get_or (n ∷ rest_from (known ++ (n ∷ [])) (map FDEFT gs)) (length gs) 0))) (deeps_after (keep deeps f (depth g.body)) (suc f) gs))
          (add_held records (records_f (FDEFT g)) _ _ refl);
      over = rest.over;
    }
tells_first deeps known f at g gs records steps r y o false h = record { clean = λ e. absurd (faulty e); over = λ number place e. (sym (refused_number e), ap (refuse 12) (refused_place e)) }

-- the count, where it is known what the first function leaves
first_is : (t : List ℕ) (k f n : ℕ) (z y : Totals) → function_at t f z ≡ y → leb y.count.steps most ≡ leb n most
    → functions_from t (suc k) f z ≡ or_over (leb n most) z.count.at.at y (functions_from t k (suc f) y)
unfolding functions_from
first_is t k f n z y e test = rw (e, test, add-one f) refl

module _ (t : List ℕ) where
  funcs_counted : {v : Env} {fs : List Func} → InFuncs v fs → (κ deeps known : List ℕ) (c : Count) → from t c.at.at ≡ list_funcs fs → Says κ known
      → length known ≡ v.func → v.func + length fs ≤ length κ → length κ ≤ 16 → size_fs fs ≤ most → hold c.steps ≡ c.steps
      → Tells (within c.at.at fs (rest_from known (map FDEFT fs))) (functions_from t (length fs) v.func (totals c v.params κ deeps)) deeps v.func fs known
      c.records c.steps
  unfolding passed list_funcs rest_from within size_fs size_f
  funcs_counted none_left κ deeps known c is says l room few short h = tells_none t κ deeps known _ c c.at.at _ h
  funcs_counted {v = v} (one_more {f = g} {fs = gs} i more) κ deeps known c is says l room few short h =
      let f = v.func in
      let n = steps_f (λ j. get_or known j 0) (FDEFT g) in
      let k = hold (steps_f (λ j. get_or κ j 0) (FDEFT g)) in
      let held : k ≡ hold n = ap (λ (s : ℕ → ℕ). hold (steps_f s (FDEFT g))) (fun_ext says) in
      let test : leb k most ≡ leb n most = ap (λ (m : ℕ). leb m most) held ∙ hold_leb n in
      let (one, on) = func_counted t v g κ deeps c (list_funcs gs) i (omega arith) (omega arith) is in
      let b = count (c.at.at + size_f g) (hold (c.records + records_f (FDEFT g))) k (depth g.body) in
      let y = totals b (keep v.params f g.params) (keep κ f k) (keep deeps f (depth g.body)) in
      let rest = within (c.at.at + size_f g) gs (rest_from (known ++ (n ∷ [])) (map FDEFT gs)) in
      let a = tells_first deeps known f c.at.at g gs c.records c.steps rest y (functions_from t (length gs) (suc f) y) (leb n most)
      (λ e.
      let exact : k ≡ n = held ∙ hold_within n (leb-true n most e) in
      subst (λ (m : ℕ). Tells rest (functions_from t (length gs) (suc f) y) (keep deeps f (depth g.body)) (suc f) gs (known ++ (n ∷ [])) (hold (c.records + records_f (FDEFT g))) m) exact
      (funcs_counted more (keep κ f k) (keep deeps f (depth g.body)) (known ++ (n ∷ [])) b on
      (rw exact (says_more κ known f n l (omega arith) says)) (known_length known n f l) (omega (arith, length-set κ f k)) (omega (arith, length-set κ f k)) (omega arith)
      (ap hold held ∙ hold_hold n ∙ sym held))) in
      subst (λ (o : Outcome). Tells (unless_over (leb n most) c.at.at rest) o deeps f (g ∷ gs) known c.records c.steps)
      (sym (first_is t (length gs) f n (totals c v.params κ deeps) y one test)) a

-- ---- the whole table
-- a row that says nothing
pub zeros : (n g : ℕ) → ◌≡◌ {A = ℕ} (get_or (replicate n 0) g 0) 0
zeros zero g = refl
zeros (suc n) zero = refl
zeros (suc n) (suc g) = zeros n g

-- the records needed
pub tape_records : (p : Program) → records (tape (translate p)) ≡ length (instructions (translate p))
unfolding tape words
tape_records p =
    let c = instructions (translate p) in
    omega (arith, words_length (map write c), length-map c write)

-- the exposed function's steps are the last ones
pub exposed : (p : Program) (first : ℕ) → 1 ≤ length p.funcs → get_or (first ∷ rest_from [] (map FDEFT p.funcs)) (length p.funcs) 0 ≡ steps_exposed (translate p)
unfolding steps_exposed steps_of translate
exposed p first some =
    let rest = rest_from [] (map FDEFT p.funcs) in
    let n = length p.funcs in
    let e : n ≡ suc (n - 1) = omega arith in
    ap (λ (k : ℕ). get_or (first ∷ rest) k 0) e ∙ rw (steps_rest [] (map FDEFT p.funcs), length-map p.funcs FDEFT) refl

module _ (t : List ℕ) (w : Words t) (p : Program) (i : ℕ) (e : read_table t ≡ parsed p i) (deeps : List ℕ) where
  whole : Tells (costs p) (counted t deeps) deeps 0 p.funcs [] (first_func p) 0
  unfolding counted costs steps_of translate first_func
  whole =
      let (is, within_ranges) = lists t p i w e in
      let (first, on) = begins t p is in
      let at = first_func p in
      let a = funcs_counted t within_ranges.funcs (replicate 16 0) deeps [] (count at at 0 0) on (λ g. zeros 16 g) refl (omega (arith, within_ranges.functions)) (omega arith)
      (omega (arith, within_ranges.short, listing_size p)) (hold_within 0 (omega arith)) in
      rw (first, steps_rest [] (map FDEFT p.funcs)) a

  clean_is : costs p ≡ Ok tt → counted t deeps ≡ outcome (Ok (announced (records (tape (translate p))) (steps_exposed (translate p)))) (deeps_after deeps 0 p.funcs)
  unfolding first_func translate
  clean_is clean =
      let (is, within_ranges) = lists t p i w e in
      let n = first_func p + records_fs (map FDEFT p.funcs) in
      let size : records (tape (translate p)) ≡ n = omega (arith, tape_records p, instructions_records (translate p)) in
      let held : hold n ≡ records (tape (translate p)) = hold_within n (omega (arith, size, tape_records p, tape_most p within_ranges)) ∙ sym size in
      whole.clean clean ∙ (λ j. outcome (Ok (announced (held j) (exposed p 0 within_ranges.some j))) (deeps_after deeps 0 p.funcs))

  cost_by : (r : First) → costs p ≡ r → (counted t deeps).cost ≡ cost_of r (records (tape (translate p))) (steps_exposed (translate p))
  unfolding cost_of
  cost_by (Ok u) c = ap (λ (o : Outcome). o.cost) (clean_is c)
  cost_by (Err r) c = (whole.over r.number r.place c).1

  -- the cost: 12, or the records needed and the exposed function's steps
  pub counted_is : (counted t deeps).cost ≡ cost_of (costs p) (records (tape (translate p))) (steps_exposed (translate p))
  counted_is = cost_by (costs p) refl

  pub twelve : (number place : ℕ) → costs p ≡ refuse number place → number ≡ 12
  twelve number place c = (whole.over number place c).0

  -- the row of deepest IF nestings
  pub deeps_are : costs p ≡ Ok tt → (counted t deeps).depths ≡ deeps_after deeps 0 p.funcs
  deeps_are c = ap (λ (o : Outcome). o.depths) (clean_is c)
