-- A count by one record, by one part and by one function: how what the code does there is what the definitions say. Assumes nothing.
use mathlib.Core.Path.{◌≡◌, refl, sym, ap, ◌∙◌}
use mathlib.Core.Bool.{Bool, true, false}
use mathlib.Core.List.{List, [], ◌∷◌}
use Prim.Native.Nat.{ℕ, zero, suc, ◌+◌, ◌-◌, ◌≤◌, ◌<◌}
use native.Mathlib.Omega.{arith}
use borrow.Author.Tests.{le-leb, lt-leb}
use lib.Dec.{leb}
use lib.ListN.{length, length-set}
use Rattle.word.specs.Reader.{read_at}
use Rattle.word.specs.declared.Record.{Record}
use Rattle.word.specs.declared.reader.Reader.{Reader}
use Rattle.word.specs.Reader.{Read}
use Rattle.std.specs.Prelude.{Some, None}
use Rattle.script.specs.Table.{read_s}
use Rattle.script.proofs.Leading.{from}
use Rattle.scoping.proofs.Found.{found_on, found_none}
use Rattle.scoping.specs.Passes.{heading, noted, arity_of}
use Rattle.tape.specs.Steps.{most}
use Rattle.tape.specs.Held.{hold}
use Rattle.costing.specs.Counting.{moved, plus, weight, past, tally_one, tally, head, enter, statement}
use Rattle.costing.specs.Totals.{Totals, body_at, keeping, function_by, function_at, Outcome, outcome, or_over, functions_from, counted}
use Rattle.costing.specs.declared.count.Count.{Count}
use Rattle.translation.specs.Compile.{announced}
use Rattle.std.specs.Prelude.{Ok}
use Rattle.word.specs.Refusals.{refuse}

-- ---- an expression's records
module _ (params κ : List ℕ) where
  pub tally_over : (xs : List Record) (p : ℕ) (c : Count) → p ≡ 0 → tally params κ xs p c ≡ c
  unfolding tally tally_one
  tally_over [] p c e = refl
  tally_over (x ∷ xs) p c e = rw e refl

  tally_none : {xs : List Record} (p : ℕ) (c : Count) → xs ≡ [] → tally params κ xs p c ≡ c
  unfolding tally
  tally_none p c e = rw e refl

  tally_on : (x : Record) (xs : List Record) (p : ℕ) (c : Count) → 0 < p
      → tally params κ (x ∷ xs) p c ≡ tally params κ xs (hold (p - 1 + arity_of params x)) (past 1 (weight κ x) c)
  unfolding tally tally_one
  tally_on x xs p c some =
      let e : p ≡ suc (p - 1) = omega arith in
      ap (λ (k : ℕ). tally_one params κ (tally params κ xs) x k c) e

  pub tally_found : (t : List ℕ) (here : Count) (p : ℕ) (x : Record) (next : Reader) → 0 < p → read_at t here.at.at ≡ Some (x, next)
      → tally params κ (from t next.at) (hold (p - 1 + arity_of params x)) (moved next.at (plus 1 (weight κ x) here)) ≡ tally params κ (from t here.at.at) p here
  unfolding plus past
  tally_found t here p x next some found =
      let (there, is, on) = found_on t here.at.at x next found in
      rw (on, is) (sym (tally_on x (from t (here.at.at + 1)) p here some))

  pub tally_end : (t : List ℕ) (here : Count) (p : ℕ) → read_at t here.at.at ≡ None → tally params κ (from t here.at.at) p here ≡ here
  tally_end t here p found = tally_none p here (found_none t here.at.at found)

-- ---- a statement's record
module _ (params κ t : List ℕ) where
  pub statement_none : (left d : ℕ) (c : Count) → left ≡ 0 → statement params κ t left d c ≡ c
  unfolding statement
  statement_none left d c e = ap (λ (n : ℕ). statement params κ t n d c) e

  statement_on : (left d : ℕ) (c : Count) → 0 < left
      → statement params κ t left d c ≡ enter params κ t (statement params κ t (left - 1)) d c (read_at t c.at.at)
  unfolding statement
  statement_on left d c h =
      let e : left ≡ suc (left - 1) = omega arith in
      ap (λ (n : ℕ). statement params κ t n d c) e

  pub statement_end : (left d : ℕ) (c : Count) → 0 < left → read_at t c.at.at ≡ None → statement params κ t left d c ≡ c
  unfolding enter
  statement_end left d c h e = statement_on left d c h ∙ ap (enter params κ t (statement params κ t (left - 1)) d c) e

  pub statement_found : (left d : ℕ) (c : Count) (x : Record) (i : Reader) → 0 < left → read_at t c.at.at ≡ Some (x, i)
      → statement params κ t left d c ≡ head params κ t (statement params κ t (left - 1)) d (moved i.at c) (read_s x)
  unfolding enter
  statement_found left d c x i h e = statement_on left d c h ∙ ap (enter params κ t (statement params κ t (left - 1)) d c) e

-- ---- functions
module _ (t : List ℕ) where
  pub function_end : (f : ℕ) (z : Totals) → read_at t z.count.at.at ≡ None → function_at t f z ≡ z
  unfolding function_at function_by
  function_end f z e = ap (function_by t f z) e

  pub function_found : (f : ℕ) (z : Totals) (x : Record) (i : Reader) → read_at t z.count.at.at ≡ Some (x, i)
      → function_at t f z ≡ keeping t f x (body_at t i.at z) z
  unfolding function_at function_by
  function_found f z x i e = ap (function_by t f z) e

  module _ (n f : ℕ) (z : Totals) where
    functions_first : f < n → functions_from t (n - f) f z
        ≡ or_over (leb (function_at t f z).count.steps most) z.count.at.at (function_at t f z) (functions_from t (n - (f + 1)) (f + 1) (function_at t f z))
    unfolding functions_from
    functions_first h =
        let e : n - f ≡ suc (n - (f + 1)) = omega arith in
        ap (λ (k : ℕ). functions_from t k f z) e

    pub functions_on : f < n → (function_at t f z).count.steps ≤ most → functions_from t (n - f) f z ≡ functions_from t (n - (f + 1)) (f + 1) (function_at t f z)
    unfolding or_over
    functions_on h l = functions_first h ∙ rw (le-leb (function_at t f z).count.steps most l) refl

    pub functions_over : f < n → most < (function_at t f z).count.steps → functions_from t (n - f) f z ≡ outcome (refuse 12 z.count.at.at) (function_at t f z).depths
    unfolding or_over
    functions_over h l = functions_first h ∙ rw (lt-leb (function_at t f z).count.steps most l) refl

    pub functions_end : n ≤ f → functions_from t (n - f) f z ≡ outcome (Ok (announced (hold z.count.records) (hold z.count.steps))) z.depths
    unfolding functions_from
    functions_end h =
        let e : n - f ≡ 0 = omega arith in
        ap (λ (k : ℕ). functions_from t k f z) e

-- ---- the row of depths keeps its length
noted_length : (row : List ℕ) (f n : ℕ) → length (noted row f n) ≡ length row
unfolding noted
noted_length row f n = length-set row f n

module _ (t : List ℕ) where
  function_length : (f : ℕ) (z : Totals) (r : Read) → length (function_by t f z r).depths ≡ length z.depths
  unfolding function_by keeping
  function_length f z (Some (x, i)) = noted_length z.depths f _
  function_length f z None = refl

  over_length : (b : Bool) (at n : ℕ) (y : Totals) (rest : Outcome) → length y.depths ≡ n → length rest.depths ≡ n → length (or_over b at y rest).depths ≡ n
  unfolding or_over
  over_length true at n y rest e f = f
  over_length false at n y rest e f = e

  functions_length : (n f : ℕ) (z : Totals) → length (functions_from t n f z).depths ≡ length z.depths
  unfolding functions_from function_at
  functions_length zero f z = refl
  functions_length (suc n) f z =
      let one : length (function_at t f z).depths ≡ length z.depths = function_length f z (read_at t z.count.at.at) in
      over_length (leb (function_at t f z).count.steps most) z.count.at.at (length z.depths) (function_at t f z) _ one (functions_length n (f + 1) (function_at t f z) ∙ one)

  pub counted_length : (depths : List ℕ) → length (counted t depths).depths ≡ length depths
  unfolding counted
  counted_length depths = functions_length (heading t).functions 0 _
