-- Walks without trees: parts one after another are a run, an expression is the run of its parts, a statement that of its expressions and then
-- of its statements; and what is read where a record stands, in the code's steps. Assumes nothing.
use Rattle.std.proofs.Common.{◌≡◌, ℕ, zero, suc, ◌+◌, ◌-◌, ◌<◌, ◌≤◌, Bool, true, false, cond, not, ◌&&◌, List, refl, sym, ap, ◌∙◌, arith, sub-one, eqb}
use Rattle.std.specs.Prelude.{Ok, Err}
use borrow.Author.Tests.{ne_eqb}
use Rattle.word.specs.Reader.{read_at}
use Rattle.word.specs.Refusals.{OrRefused, refuse, ◌>>=◌}
use Rattle.word.specs.declared.reader.Reader.{Reader}
use Rattle.script.specs.Tree.{Expr, more, call, Stmt, seq, next}
use Rattle.script.specs.Table.{HeadE, NUM, TRUE, FALSE, VAR, GET, LNOT, BNOT, BIN, CALL, HeadS, SKIP, SEQ, DEF, SET, PUT, FOR, IF, RETURN, read_e, read_s, expression, statement, lead_by}
use Rattle.script.specs.Parse.{Parsed, parsed, refused, and_then, parts, build_e, enter_e, too_deep, parse_e, whole, Nest, nests, inside, sequence, build_s, enter_if, enter_s, parse_s}
use Rattle.script.specs.declared.Env.{Env}
use Rattle.script.specs.Shape.{parts_in, expressions_in, statements_in}
use Rattle.reading.specs.Structure.{due_of, leads, walk_of}
use Rattle.reading.proofs.Tested.{lead_is}

abbrev pub Walk : Type 0
Walk = OrRefused Reader

-- ---- one after another
unfoldable pub run : (ℕ → Walk) → ℕ → ℕ → Walk
run f zero i = Ok (record { at = i })
run f (suc n) i = f i >>= λ r. run f n r.at

-- what is left of a run after k of n
pub run_more : (f : ℕ → Walk) (n k i : ℕ) → k < n → run f (n - k) i ≡ (f i >>= λ r. run f (n - (k + 1)) r.at)
unfolding run
run_more f n k i h = let one : n - k ≡ suc (n - (k + 1)) = omega arith in rw one refl

pub run_all : (f : ℕ → Walk) (n k i : ℕ) → n ≤ k → run f (n - k) i ≡ Ok (record { at = i })
unfolding run
run_all f n k i h = let none : n - k ≡ 0 = omega arith in rw none refl

pub then_walk : {A B : Type 0} (p : Parsed A) (g : A → ℕ → Parsed B) (k : ℕ → Walk) → ((a : A) (i : ℕ) → walk_of (g a i) ≡ k i)
    → walk_of (and_then p g) ≡ (walk_of p >>= λ r. k r.at)
unfolding and_then walk_of
then_walk (parsed a i) g k h = h a i
then_walk (refused number place) g k h = refl

pub same_walk : {A B : Type 0} (p : Parsed A) (m : A → B) → walk_of (and_then p (λ a j. parsed (m a) j)) ≡ walk_of p
unfolding and_then walk_of
same_walk (parsed a i) m = refl
same_walk (refused number place) m = refl

pub parts_run : (f : ℕ → Parsed Expr) (n i : ℕ) → walk_of (parts f n i) ≡ run (λ j. walk_of (f j)) n i
unfolding parts run walk_of
parts_run f zero i = refl
parts_run f (suc n) i = then_walk (f i) _ (run (λ j. walk_of (f j)) n) (λ e j. same_walk (parts f n j) (more e) ∙ parts_run f n j)

pub parts_none : (f : ℕ → Parsed Expr) (n : ℕ) (r : Reader) → n ≡ 0 → walk_of (parts f n r.at) ≡ Ok r
unfolding parts walk_of
parts_none f n r none = rw none refl

-- ---- an expression
build_run : (f : ℕ → Parsed Expr) (e : Env) (i : ℕ) (h : HeadE) → walk_of (build_e f e i h) ≡ walk_of (parts f (parts_in e.params h) i)
unfolding build_e parts_in run walk_of parts
build_run f e i (NUM v) = refl
build_run f e i TRUE = refl
build_run f e i FALSE = refl
build_run f e i (VAR x) = refl
build_run f e i (GET a) = then_walk (f i) _ _ (λ x j. refl) ∙ sym (parts_run f 1 i)
build_run f e i LNOT = then_walk (f i) _ _ (λ x j. refl) ∙ sym (parts_run f 1 i)
build_run f e i BNOT = then_walk (f i) _ _ (λ x j. refl) ∙ sym (parts_run f 1 i)
build_run f e i (BIN o) = then_walk (f i) _ _ (λ l j. then_walk (f j) _ _ (λ r k. refl)) ∙ sym (parts_run f 2 i)
build_run f e i (CALL g) = same_walk (parts f _ i) (call g)

-- 7, unless there is depth left
abbrev pub deep : ℕ → ℕ → Walk → Walk
deep left at w = cond (eqb left 0) (refuse 7 at) w

pub expression_is : (left : ℕ) (e : Env) (t : List ℕ) (at : ℕ)
    → walk_of (parse_e left e t at)
    ≡ (due_of t (read_at t at) >>= λ found.
    leads (lead_by expression e found.0 at) >>= λ u.
    deep left at (walk_of (parts (parse_e (left - 1) e t) (parts_in e.params (read_e found.0)) found.1.at)))
unfolding parse_e too_deep enter_e walk_of expression
expression_is zero e t at = lead_is expression e t at (λ l. walk_of {A = Expr} (too_deep at l)) _ (λ x r next. refl) (λ number place. refl)
expression_is (suc left) e t at =
    lead_is expression e t at (λ l. walk_of (enter_e (parse_e left e t) e at l)) _
    (λ x r next. rw (next, sub-one, ne_eqb (suc left) 0 (λ z. omega arith)) (build_run (parse_e left e t) e (at + 1) (read_e x))) (λ number place. refl)

-- ---- a statement
then_next : {A B : Type 0} (p : Parsed A) (h : A → ℕ → Parsed B) (k l : ℕ → Walk) → ((a : A) (i : ℕ) → walk_of (h a i) ≡ (k i >>= λ r. l r.at))
    → walk_of (and_then p h) ≡ ((walk_of p >>= λ r. k r.at) >>= λ r. l r.at)
unfolding and_then walk_of
then_next (parsed a i) h k l e = e a i
then_next (refused number place) h k l e = refl

pub sequence_run : (f : ℕ → Parsed Stmt) (n i : ℕ) → walk_of (sequence f n i) ≡ run (λ j. walk_of (f j)) n i
unfolding sequence run walk_of
sequence_run f zero i = refl
sequence_run f (suc n) i = then_walk (f i) _ (run (λ j. walk_of (f j)) n) (λ s j. same_walk (sequence f n j) (next s) ∙ sequence_run f n j)

pub sequence_none : (f : ℕ → Parsed Stmt) (n : ℕ) (r : Reader) → n ≡ 0 → walk_of (sequence f n r.at) ≡ Ok r
unfolding sequence walk_of
sequence_none f n r none = rw none refl

pub sequence_one : (f : ℕ → Parsed Stmt) (i : ℕ) → walk_of (sequence f 1 i) ≡ walk_of (f i)
unfolding sequence run
sequence_one f i = sequence_run f 1 i ∙ by (walk_of (f i))
  where
    by : (w : Walk) → (w >>= λ r. Ok (record { at = r.at })) ≡ w
    by (Ok r) = refl
    by (Err r) = refl

module _ (g : ℕ → Parsed Expr) (f : ℕ → Parsed Stmt) where
  abbrev G : ℕ → Walk
  G j = walk_of (g j)

  abbrev F : ℕ → Walk
  F j = walk_of (f j)

  in_runs : (i : ℕ) (h : HeadS) → walk_of (build_s g f i h) ≡ (run G (expressions_in h) i >>= λ r. run F (statements_in h) r.at)
  unfolding build_s expressions_in statements_in run walk_of
  in_runs i SKIP = refl
  in_runs i (SEQ n) = same_walk (sequence f n i) seq ∙ sequence_run f n i
  in_runs i (DEF x) = then_next (g i) _ (run G 0) (run F 0) (λ e j. refl)
  in_runs i (SET x) = then_next (g i) _ (run G 0) (run F 0) (λ e j. refl)
  in_runs i (PUT a) = then_next (g i) _ (run G 1) (run F 0) (λ x j. then_next (g j) _ (run G 0) (run F 0) (λ e k. refl))
  in_runs i (FOR x q r) = then_walk (f i) _ (run F 0) (λ s j. refl)
  in_runs i IF = then_next (g i) _ (run G 0) (run F 2) (λ c j. then_walk (f j) _ (run F 1) (λ s k. then_walk (f k) _ (run F 0) (λ u l. refl)))
  in_runs i RETURN = then_next (g i) _ (run G 0) (run F 0) (λ e j. refl)

  -- its expressions, and then its statements
  statement_run : (i : ℕ) (h : HeadS) → walk_of (build_s g f i h) ≡ (walk_of (parts g (expressions_in h) i) >>= λ r. walk_of (sequence f (statements_in h) r.at))
  statement_run i h =
      in_runs i h
      ∙ ap (λ (w : Walk). w >>= λ r. run F (statements_in h) r.at) (sym (parts_run g (expressions_in h) i))
      ∙ ap (λ (k : ℕ → Walk). walk_of (parts g (expressions_in h) i) >>= λ r. k r.at) (λ i j. sym (sequence_run f (statements_in h) j) i)

-- there is depth left, and no ninth IF or FOR
abbrev pub fits : ℕ → Bool → Bool
fits left nested = not (eqb left 0) && nested

nested_walk : (b : Bool) (p : Parsed Stmt) (at : ℕ) (w : Walk) → walk_of p ≡ w → walk_of (enter_if b at p) ≡ cond b w (refuse 7 at)
unfolding enter_if walk_of
nested_walk true p at w is = is
nested_walk false p at w is = refl

pub statement_is : (left : ℕ) (n : Nest) (e : Env) (t : List ℕ) (at : ℕ)
    → walk_of (parse_s left n e t at)
    ≡ (due_of t (read_at t at) >>= λ found.
    leads (lead_by statement e found.0 at) >>= λ u.
    cond (fits left (nests n (read_s found.0)))
    (walk_of (parts (whole e t) (expressions_in (read_s found.0)) found.1.at)
    >>= λ r. walk_of (sequence (parse_s (left - 1) (inside n (read_s found.0)) e t) (statements_in (read_s found.0)) r.at))
    (refuse 7 at))
unfolding parse_s too_deep enter_s walk_of statement
statement_is zero n e t at = lead_is statement e t at (λ l. walk_of {A = Stmt} (too_deep at l)) _ (λ x r next. refl) (λ number place. refl)
statement_is (suc left) n e t at =
    lead_is statement e t at (λ l. walk_of (enter_s (whole e t) (λ m i. parse_s left m e t i) n at l)) _
    (λ x r next.
    let h = read_s x in
    let f : ℕ → Parsed Stmt = parse_s left (inside n h) e t in
    rw (next, sub-one, ne_eqb (suc left) 0 (λ z. omega arith)) (nested_walk (nests n h) (build_s (whole e t) f (at + 1) h) at _ (statement_run (whole e t) f (at + 1) h)))
    (λ number place. refl)
