-- Where an expression's records stand, they are tallied as its translation's figures are. Assumes nothing.
use mathlib.Core.Path.{◌≡◌, refl, sym, ap, ◌∙◌}
use mathlib.Core.List.{List}
use Prim.Native.Nat.{ℕ, suc, ◌+◌, ◌≤◌, ◌<◌}
use native.Mathlib.Omega.{arith}
use borrow.Author.Tests.{lt-ltb}
use lib.ListN.{get_or}
use Rattle.word.specs.declared.Record.{Record}
use Rattle.script.specs.Tree.{Expr, num, tru, fls, var, get, lnot, bnot, bin, call, Exprs, none, more, size_e, size_es}
use Rattle.script.specs.Table.{write_e}
use Rattle.script.specs.Written.{count_e, list_e, list_es, InE, InEs}
use Rattle.script.specs.declared.Env.{Env}
use Rattle.script.proofs.Leading.{from}
use Rattle.script.proofs.Sizes.{size_e_some}
use Rattle.scoping.specs.Passes.{params_of, arity_of}
use Rattle.tape.specs.Steps.{most, steps_e, steps_es}
use Rattle.tape.specs.Held.{hold}
use Rattle.tape.proofs.Counts.{hold_within, hold_add, hold_add_right, hold_hold}
use Rattle.translation.specs.Translate.{EXT, EXTs}
use Rattle.costing.specs.Counting.{count, weight, past, tally_one, tally, expression}
use Rattle.costing.specs.declared.count.Count.{Count}
use Rattle.costing.proofs.Turns.{tally_over}

-- ---- counts that are held
pub alike : {at at' r r' n n' m m' : ℕ} → at ≡ at' → r ≡ r' → n ≡ n' → m ≡ m' → count at r n m ≡ count at' r' n' m'
alike e f g h = λ i. count (e i) (f i) (g i) (h i)

pub add_held : (a b c d : ℕ) → d ≡ b + c → hold (hold (a + b) + c) ≡ hold (a + d)
add_held a b c d e =
    let q : a + b + c ≡ a + d = omega arith in
    hold_add (a + b) c ∙ ap hold q

pub add_all : (a b c d e x : ℕ) → x ≡ b + c + d + e → hold (hold (hold (hold (a + b) + c) + d) + e) ≡ hold (a + x)
add_all a b c d e x q =
    ap (λ (k : ℕ). hold (hold (k + d) + e)) (add_held a b c (b + c) refl) ∙ ap (λ (k : ℕ). hold (k + e)) (add_held a (b + c) d (b + c + d) refl)
    ∙ add_held a (b + c + d) e x q

abbrev pub Held : Count → Type 0
Held c = (hold c.records ≡ c.records) × (hold c.steps ≡ c.steps)

pub nothing_more : (n : ℕ) → hold n ≡ n → n ≡ hold (n + 0)
nothing_more n h =
    let e : n ≡ n + 0 = omega arith in
    sym h ∙ ap hold e

past_held : (a b : ℕ) (c : Count) → Held (past a b c)
unfolding past
past_held a b c = (hold_hold (c.records + a), hold_hold (c.steps + b))

past_onto : (a b a' b' r n : ℕ) (c : Count) → r ≡ a' + a → n ≡ b' + b → past a b (past a' b' c) ≡ past r n c
unfolding past
past_onto a b a' b' r n c e f = alike (omega arith) (add_held c.records a' a r e) (add_held c.steps b' b n f) refl

past_nothing : (c : Count) → Held c → c ≡ past 0 0 c
unfolding past
past_nothing c h = alike (omega arith) (nothing_more c.records h.0) (nothing_more c.steps h.1) refl

weighs : (c : Count) (n : ℕ) → past 1 (hold n) c ≡ past 1 n c
unfolding past
weighs c n = alike refl refl (hold_add_right c.steps n) refl

-- ---- parts
count_size : (es : Exprs) → count_e es ≤ size_es es
unfolding count_e size_es
count_size none = omega arith
count_size (more e es) = omega (arith, size_e_some e, count_size es)

said_of : (row : List ℕ) (f : ℕ) → f < 16 → params_of row f ≡ get_or row f 0
unfolding params_of
said_of row f h = rw (lt-ltb f 16 h) refl

module _ (v : Env) (κ : List ℕ) (few : v.func ≤ 16) where
  abbrev takes : ℕ → ℕ
  takes f = get_or κ f 0

  abbrev tallied : List Record → ℕ → Count → Count
  tallied = tally v.params κ

  -- so many parts more are waited for
  waits : (xs : List Record) (p n q : ℕ) (c : Count) → p + n ≡ q → q ≤ most → tallied xs (hold (p + n)) c ≡ tallied xs q c
  waits xs p n q c e l = ap (λ (k : ℕ). tallied xs k c) (hold_within (p + n) (omega arith) ∙ e)

  mutual
    unfolding list_e write_e tally tally_one arity_of weight InE size_e count_e steps_e EXT

    tally_e : (e : Expr) (p : ℕ) (c : Count) (rest : List Record) → InE v e → p + size_e e ≤ most
        → tallied (list_e e rest) (suc p) c ≡ tallied rest p (past (size_e e) (steps_e takes (EXT e)) c)
    tally_e (num n) p c rest i l = waits rest p 0 p (past 1 0 c) (omega arith) (omega arith)
    tally_e tru p c rest i l = waits rest p 0 p (past 1 0 c) (omega arith) (omega arith)
    tally_e fls p c rest i l = waits rest p 0 p (past 1 0 c) (omega arith) (omega arith)
    tally_e (var x) p c rest i l = waits rest p 0 p (past 1 1 c) (omega arith) (omega arith)
    tally_e (get a x) p c rest i l =
        waits (list_e x rest) p 1 (suc p) (past 1 1 c) (omega arith) (omega arith) ∙ tally_e x p (past 1 1 c) rest i.1 (omega arith)
        ∙ ap (tallied rest p) (past_onto (size_e x) _ 1 1 (suc (size_e x)) (suc (steps_e takes (EXT x))) c (omega arith) (omega arith))
    tally_e (lnot x) p c rest i l =
        waits (list_e x rest) p 1 (suc p) (past 1 1 c) (omega arith) (omega arith) ∙ tally_e x p (past 1 1 c) rest i (omega arith)
        ∙ ap (tallied rest p) (past_onto (size_e x) _ 1 1 (suc (size_e x)) (suc (steps_e takes (EXT x))) c (omega arith) (omega arith))
    tally_e (bnot x) p c rest i l =
        waits (list_e x rest) p 1 (suc p) (past 1 1 c) (omega arith) (omega arith) ∙ tally_e x p (past 1 1 c) rest i (omega arith)
        ∙ ap (tallied rest p) (past_onto (size_e x) _ 1 1 (suc (size_e x)) (suc (steps_e takes (EXT x))) c (omega arith) (omega arith))
    tally_e (bin o x y) p c rest i l =
        waits (list_e x (list_e y rest)) p 2 (suc (suc p)) (past 1 1 c) (omega arith) (omega (arith, size_e_some x)) ∙ tally_e x (suc p) (past 1 1 c) (list_e y rest) i.0 (omega arith)
        ∙ tally_e y p _ rest i.1 (omega arith)
        ∙ ap (λ (z : Count). tallied rest p (past (size_e y) (steps_e takes (EXT y)) z)) (past_onto (size_e x) _ 1 1 _ _ c refl refl)
        ∙ ap (tallied rest p) (past_onto (size_e y) _ (1 + size_e x) (1 + steps_e takes (EXT x)) (suc (size_e x + size_e y)) (suc (steps_e takes (EXT x) + steps_e takes (EXT y))) c
        (omega arith) (omega arith))
    tally_e (call f es) p c rest i l =
        let k = takes f in
        let below : f < 16 = omega (arith, i.0, few) in
        let parts : params_of v.params f ≡ count_e es = said_of v.params f below ∙ sym i.1 in
        let own : past 1 (hold (1 + params_of κ f)) c ≡ past 1 (1 + k) c = ap (λ (n : ℕ). past 1 (hold (1 + n)) c) (said_of κ f below) ∙ weighs c (1 + k) in
        (λ j. tallied (list_es es rest) (hold (p + parts j)) (own j))
        ∙ waits (list_es es rest) p (count_e es) (count_e es + p) (past 1 (1 + k) c) (omega arith) (omega (arith, count_size es))
        ∙ tally_es es p (past 1 (1 + k) c) rest i.2 (past_held 1 (1 + k) c) (omega arith)
        ∙ ap (tallied rest p) (past_onto (size_es es) _ 1 (1 + k) (suc (size_es es)) (suc (steps_es takes (EXTs es) + k)) c (omega arith) (omega arith))

    tally_es : (es : Exprs) (p : ℕ) (c : Count) (rest : List Record) → InEs v es → Held c → p + size_es es ≤ most
        → tallied (list_es es rest) (count_e es + p) c ≡ tallied rest p (past (size_es es) (steps_es takes (EXTs es)) c)
    tally_es none p c rest i h l =
        let e : 0 + p ≡ p = omega arith in
        λ j. tallied rest (e j) (past_nothing c h j)
    tally_es (more e es) p c rest i h l =
        let one : suc (count_e es) + p ≡ suc (count_e es + p) = omega arith in
        ap (λ (k : ℕ). tallied (list_e e (list_es es rest)) k c) one
        ∙ tally_e e (count_e es + p) c (list_es es rest) i.0 (omega (arith, count_size es))
        ∙ tally_es es p _ rest i.1 (past_held (size_e e) (steps_e takes (EXT e)) c) (omega arith)
        ∙ ap (tallied rest p) (past_onto (size_es es) _ (size_e e) (steps_e takes (EXT e)) _ _ c refl refl)

  -- an expression where it stands
  pub expr_counted : (t : List ℕ) (e : Expr) (c : Count) (rest : List Record) → from t c.at.at ≡ list_e e rest → InE v e → size_e e ≤ most
      → expression v.params κ t c ≡ past (size_e e) (steps_e takes (EXT e)) c
  unfolding expression
  expr_counted t e c rest is i l =
      ap (λ (xs : List Record). tallied xs 1 c) is ∙ tally_e e 0 c rest i (omega arith) ∙ tally_over v.params κ rest 0 _ refl
