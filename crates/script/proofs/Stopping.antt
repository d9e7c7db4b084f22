-- Reading stops at the first record at fault: a refusal depends on no record after the one that it names. Two tables whose first records are the
-- same, up to that one, are refused with the same number at the same place. Assumes nothing.
use mathlib.Core.Path.{◌≡◌, refl, sym, ap, ◌∙◌}
use mathlib.Core.Bool.{Bool, true, false, cond}
use mathlib.Core.List.{List}
use Prim.Native.Nat.{ℕ, zero, suc, min, ◌+◌, ◌≤◌, ◌<◌}
use native.Mathlib.Omega.{arith}
use borrow.Author.Tests.{ltb-true, ltb-false, lt-ltb, le-ltb}
use lib.Dec.{ltb}
use lib.ListN.{length, get_or, take, length-take}
use lib.Seq.{get_or-take}
use Rattle.word.specs.Records.{rec, records, record_at, records_of, same, sized}
use Rattle.word.specs.declared.Record.{Record}
use Rattle.word.proofs.Records.{records_length, record_at_lem}
use Rattle.script.specs.Tree.{Expr, Stmt, Program}
use Rattle.script.specs.Table.{HeadE, NUM, TRUE, FALSE, VAR, GET, LNOT, BNOT, BIN, CALL, HeadS, SKIP, SEQ, DEF, SET, PUT, FOR, IF, RETURN, Class, expression, statement, program, array, function, Lead, node, fault, lead_by, lead}
use Rattle.script.specs.Parse.{Parsed, parsed, refused, and_then, parts, build_e, enter_e, too_deep, parse_e, Nest, nests, inside, sequence, build_s, enter_if, enter_s, parse_s, outermost, entered, passed, headed, parse_funcs, nowhere, parse_arrays, parse_program, wholly, read_table}
use Rattle.script.specs.declared.Env.{Env}
use Rattle.script.proofs.Headed.{array_headed, func_headed, program_headed}

-- ---- tables whose first k records are the same
pub record Alike (k : ℕ) (t u : List ℕ) : Type 0 where
  pub many : min k (records u) ≡ min k (records t)
  pub same : (i : ℕ) → i < k → i < records t → record_at u i ≡ record_at t i

pub alike : (k : ℕ) (t u : List ℕ) → take k (records_of u) ≡ take k (records_of t) → Alike k t u
alike k t u e =
    let many : min k (records u) ≡ min k (records t) =
    omega (arith, ap length e, length-take k (records_of u), length-take k (records_of t), records_length t, records_length u) in
    let z = rec 0 0 0 0 in
    record {
      many = many;
      same =
          λ i below h.
          let there : i < records u = omega arith in
          sym (record_at_lem u i z there) ∙ sym (get_or-take k (records_of u) i z below) ∙ ap (λ (l : List Record). get_or l i z) e
          ∙ get_or-take k (records_of t) i z below ∙ record_at_lem t i z h;
    }

-- ---- where a record's fault lies
LeadAt : {A : Type 0} → List ℕ → ℕ → Lead A → Type 0
LeadAt t at (node h) = at < records t
LeadAt t at (fault number place) = at ≤ place

tested : {A : Type 0} (t : List ℕ) (at number : ℕ) (b : Bool) (l : Lead A) → LeadAt t at l → LeadAt t at (cond b l (fault number at))
unfolding LeadAt
tested t at number true l h = h
tested t at number false l h = omega arith

lead_at : {A : Type 0} (c : Class A) (v : Env) (t : List ℕ) (at : ℕ) → at ≤ records t → LeadAt t at (lead c v t at)
unfolding lead lead_by LeadAt
lead_at {A} c v t at l = by (ltb at (records t)) refl
  where
    x : Record
    x = record_at t at

    by : (b : Bool) → ltb at (records t) ≡ b → LeadAt t at (cond b (lead_by c v (record_at t at) at) (fault 3 (records t)))
    by true h =
        tested t at 2 (c.due x.kind) _
        (tested t at 4 (same x (c.write (c.read x))) _
        (tested t at 5 (c.in_range v (c.read x)) (node (c.read x)) (ltb-true at (records t) h)))
    by false h = l

-- ---- what is read from two tables whose first k records are the same
module _ {t u : List ℕ} {k : ℕ} (𝓐 : Alike k t u) where
  pub lead_same : {A : Type 0} (c : Class A) (v : Env) (at : ℕ) → at ≤ records t → at < k → lead c v u at ≡ lead c v t at
  unfolding lead
  lead_same c v at l m = by (ltb at (records t)) refl
    where
      by : (b : Bool) → ltb at (records t) ≡ b → lead c v u at ≡ cond b (lead_by c v (record_at t at) at) (fault 3 (records t))
      by true h =
          let there = ltb-true at (records t) h in
          rw (lt-ltb at (records u) (omega (arith, 𝓐.many))) (ap (λ (x : Record). lead_by c v x at) (𝓐.same at m there))
      by false h =
          let past = ltb-false at (records t) h in
          let many = 𝓐.many in
          let e : records u ≡ records t = omega arith in
          rw (le-ltb at (records u) (omega arith), e) refl

  -- from record `at` on: p from the one, q from the other
  pub data Kept {A : Type 0} (at : ℕ) : Parsed A → Parsed A → Type 0 where
    reads : {a : A} {j : ℕ} {q : Parsed A} → at ≤ j → j ≤ records t → (j ≤ k → q ≡ parsed a j) → Kept at (parsed a j) q
    stops : {number place : ℕ} {q : Parsed A} → at ≤ suc place → (place < k → q ≡ refused number place) → Kept at (refused number place) q

  -- seen from an earlier record
  earlier : {A : Type 0} {at j : ℕ} {p q r : Parsed A} → at ≤ j → (j ≤ k → r ≡ q) → Kept j p q → Kept at p r
  earlier l f (reads {j = i} m n e) = reads {j = i} (omega arith) n (λ h. f (omega arith) ∙ e h)
  earlier l f (stops {place} m e) = stops {place = place} (omega arith) (λ h. f (omega arith) ∙ e h)

  kept : {A : Type 0} {a : A} {j : ℕ} → j ≤ records t → Kept j (parsed a j) (parsed a j)
  kept {j} l = reads {j = j} (omega arith) l (λ h. refl)

  kept_then : {A B : Type 0} {at : ℕ} {p q : Parsed A} {g h : A → ℕ → Parsed B} → Kept at p q → ((a : A) (j : ℕ) → j ≤ records t → Kept j (g a j) (h a j))
      → Kept at (and_then p g) (and_then q h)
  unfolding and_then
  kept_then {h} (reads {a} {j} l m e) r = earlier l (λ n. ap (λ p. and_then p h) (e n)) (r a j m)
  kept_then {h} (stops l e) r = stops l (λ n. ap (λ p. and_then p h) (e n))

  -- behind a record's head
  module _ {A B : Type 0} (c : Class A) (v : Env) (at : ℕ) (G H : Lead A → Parsed B) where
    kept_lead : ((n p : ℕ) → (G (fault n p) ≡ refused n p) × (H (fault n p) ≡ refused n p)) → at ≤ records t
        → ((h : A) → at + 1 ≤ records t → Kept (at + 1) (G (node h)) (H (node h))) → Kept at (G (lead c v t at)) (H (lead c v u at))
    unfolding LeadAt
    kept_lead faults l r = by (lead c v t at) refl (lead_at c v t at l)
      where
        by : (x : Lead A) → lead c v t at ≡ x → LeadAt t at x → Kept at (G x) (H (lead c v u at))
        by (node h) e m = earlier (omega arith) (λ n. ap H (lead_same c v at l (omega arith) ∙ e)) (r h (omega arith))
        by (fault number place) e m =
            rw (faults number place).0 (stops {place = place} (omega arith) (λ n. ap H (lead_same c v at l (omega arith) ∙ e) ∙ (faults number place).1))

  -- ---- expressions
  module _ (v : Env) (f g : ℕ → Parsed Expr) (r : (i : ℕ) → i ≤ records t → Kept i (f i) (g i)) where
    parts_kept : (n i : ℕ) → i ≤ records t → Kept i (parts f n i) (parts g n i)
    unfolding parts
    parts_kept zero i l = kept l
    parts_kept (suc n) i l = kept_then (r i l) (λ x j m. kept_then (parts_kept n j m) (λ xs o h. kept h))

    build_kept : (i : ℕ) → i ≤ records t → (h : HeadE) → Kept i (build_e f v i h) (build_e g v i h)
    unfolding build_e
    build_kept i l (NUM n) = kept l
    build_kept i l TRUE = kept l
    build_kept i l FALSE = kept l
    build_kept i l (VAR x) = kept l
    build_kept i l (GET a) = kept_then (r i l) (λ x j h. kept h)
    build_kept i l LNOT = kept_then (r i l) (λ x j h. kept h)
    build_kept i l BNOT = kept_then (r i l) (λ x j h. kept h)
    build_kept i l (BIN o) = kept_then (r i l) (λ x j m. kept_then (r j m) (λ y o₁ h. kept h))
    build_kept i l (CALL f₁) = kept_then (parts_kept (get_or v.params f₁ 0) i l) (λ xs j h. kept h)

  pub expr_kept : (left : ℕ) (v : Env) (at : ℕ) → at ≤ records t → Kept at (parse_e left v t at) (parse_e left v u at)
  unfolding parse_e enter_e too_deep
  expr_kept zero v at l = kept_lead expression v at (too_deep at) (too_deep at) (λ n p. (refl, refl)) l (λ h m. stops {place = at} (omega arith) (λ n. refl))
  expr_kept (suc left) v at l =
      kept_lead expression v at (enter_e (parse_e left v t) v at) (enter_e (parse_e left v u) v at) (λ n p. (refl, refl)) l
      (λ h m. build_kept v (parse_e left v t) (parse_e left v u) (expr_kept left v) (at + 1) m h)

  -- ---- statements
  module _ (v : Env) (f g : ℕ → Parsed Stmt) (r : (i : ℕ) → i ≤ records t → Kept i (f i) (g i)) where
    sequence_kept : (n i : ℕ) → i ≤ records t → Kept i (sequence f n i) (sequence g n i)
    unfolding sequence
    sequence_kept zero i l = kept l
    sequence_kept (suc n) i l = kept_then (r i l) (λ x j m. kept_then (sequence_kept n j m) (λ xs o h. kept h))

    whole_kept : (i : ℕ) → i ≤ records t → Kept i (parse_e 16 v t i) (parse_e 16 v u i)
    whole_kept = expr_kept 16 v

    build_stmt : (i : ℕ) → i ≤ records t → (h : HeadS) → Kept i (build_s (parse_e 16 v t) f i h) (build_s (parse_e 16 v u) g i h)
    unfolding build_s
    build_stmt i l SKIP = kept l
    build_stmt i l (SEQ n) = kept_then (sequence_kept n i l) (λ xs j h. kept h)
    build_stmt i l (DEF x) = kept_then (whole_kept i l) (λ y j h. kept h)
    build_stmt i l (SET x) = kept_then (whole_kept i l) (λ y j h. kept h)
    build_stmt i l (PUT a) = kept_then (whole_kept i l) (λ y j m. kept_then (whole_kept j m) (λ z o h. kept h))
    build_stmt i l (FOR x lo hi) = kept_then (r i l) (λ s j h. kept h)
    build_stmt i l IF = kept_then (whole_kept i l) (λ c j m. kept_then (r j m) (λ s o n. kept_then (r o n) (λ z q h. kept h)))
    build_stmt i l RETURN = kept_then (whole_kept i l) (λ y j h. kept h)

  nested_kept : (b : Bool) (at : ℕ) {p q : Parsed Stmt} → Kept (at + 1) p q → Kept (at + 1) (enter_if b at p) (enter_if b at q)
  unfolding enter_if
  nested_kept true at h = h
  nested_kept false at h = stops {place = at} (omega arith) (λ n. refl)

  pub stmt_kept : (left : ℕ) (n : Nest) (v : Env) (at : ℕ) → at ≤ records t → Kept at (parse_s left n v t at) (parse_s left n v u at)
  unfolding parse_s enter_s too_deep
  stmt_kept zero n v at l = kept_lead statement v at (too_deep at) (too_deep at) (λ k p. (refl, refl)) l (λ h m. stops {place = at} (omega arith) (λ k. refl))
  stmt_kept (suc left) n v at l =
      let f : Nest → ℕ → Parsed Stmt = λ m i. parse_s left m v t i in
      let g : Nest → ℕ → Parsed Stmt = λ m i. parse_s left m v u i in
      kept_lead statement v at (enter_s (parse_e 16 v t) f n at) (enter_s (parse_e 16 v u) g n at) (λ k p. (refl, refl)) l
      (λ h m. nested_kept (nests n h) at (build_stmt v (f (inside n h)) (g (inside n h)) (stmt_kept left (inside n h) v) (at + 1) m h))

  -- ---- functions and the program
  arrays_kept : (n at : ℕ) → at ≤ records t → Kept at (parse_arrays n t at) (parse_arrays n u at)
  unfolding parse_arrays headed
  arrays_kept zero at l = kept l
  arrays_kept (suc n) at l =
      kept_lead array (nowhere 0) at (array_headed n t at) (array_headed n u at) (λ k p. (refl, refl)) l
      (λ h m. kept_then (arrays_kept n (at + 1) m) (λ ls j o. kept o))

  funcs_kept : (n : ℕ) (v : Env) (at : ℕ) → at ≤ records t → Kept at (parse_funcs n v t at) (parse_funcs n v u at)
  unfolding parse_funcs headed
  funcs_kept zero v at l = kept l
  funcs_kept (suc n) v at l =
      kept_lead function v at (func_headed n v t at) (func_headed n v u at) (λ k p. (refl, refl)) l
      (λ h m. kept_then (stmt_kept 16 outermost (entered v h) (at + 1) m) (λ s j o. kept_then (funcs_kept n (passed v h) j o) (λ fs i q. kept q)))

  program_kept : Kept 0 (parse_program t) (parse_program u)
  unfolding parse_program headed
  program_kept =
      kept_lead program (nowhere 0) 0 (program_headed t 0) (program_headed u 0) (λ k p. (refl, refl)) (omega arith)
      (λ h m.
      kept_then (arrays_kept h.arrays (0 + 1) m) (λ ls j l.
      kept_then (funcs_kept h.functions (nowhere h.arrays) j l) (λ fs i o. kept o)))

-- ---- the whole table
clash : {number place i : ℕ} {p : Program} → parsed p i ≡ refused number place → ⊥
clash e = let z : ◌≡◌ {A = ℕ} 0 1 = cc in omega arith

-- 2 to 7, of whole records
module _ {t u : List ℕ} (number place : ℕ) (𝓐 : Alike (suc place) t u) where
  wholly_kept : {p q : Parsed Program} → Kept 𝓐 0 p q → wholly (records t) p ≡ refused number place → wholly (records u) q ≡ refused number place
  unfolding wholly
  wholly_kept (stops {place = i} l e) h =
      let i_is : i ≡ place = cc in
      rw (e (omega arith)) h
  wholly_kept {q} (reads {a} {j} l m e) h = by (ltb j (records t)) refl h
    where
      by : (b : Bool) → ltb j (records t) ≡ b → cond b (refused 6 j) (parsed a j) ≡ refused number place → wholly (records u) q ≡ refused number place
      by true b h =
          let j_is : j ≡ place = cc in
          let there : j < records u = omega (arith, ltb-true j (records t) b, 𝓐.many) in
          rw (e (omega arith), lt-ltb j (records u) there) h
      by false b h = absurd (clash h)

sized_refused : (b : Bool) (r : Parsed Program) (number place : ℕ) → 2 ≤ number → cond b r (refused 1 0) ≡ refused number place → r ≡ refused number place
sized_refused true r number place l e = e
sized_refused false r number place l e = let n : ◌≡◌ {A = ℕ} 1 number = cc in absurd (omega arith)

-- a table is refused (2 to 7) at a record: so is each that has the same records up to that one, with the same number, and at the same place
pub first_fault : (t u : List ℕ) (number place : ℕ) → read_table t ≡ refused number place → 2 ≤ number → sized 4096 (length u) ≡ true
    → take (suc place) (records_of u) ≡ take (suc place) (records_of t) → read_table u ≡ refused number place
unfolding read_table
first_fault t u number place e l size same =
    let a = alike (suc place) t u same in
    rw size (wholly_kept number place a (program_kept a) (sized_refused (sized 4096 (length t)) _ number place l e))
