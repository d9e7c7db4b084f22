-- The walks over statements and over functions, turn by turn, as the code takes them. Assumes nothing.
use Prim.Native.Nat.{ℕ, zero, suc, ◌+◌, ◌-◌, ◌<◌, ◌≤◌}
use native.Mathlib.Omega.{arith}
use mathlib.Core.Path.{◌≡◌, refl, sym, ap, ◌∙◌}
use mathlib.Core.List.{List}
use Rattle.word.specs.Reader.{read_at}
use Rattle.word.proofs.Walk.{read_found}
use Rattle.word.specs.declared.Record.{Record}
use Rattle.word.specs.declared.Refusal.{Refusal}
use Rattle.word.specs.declared.reader.Reader.{Reader}
use Rattle.std.proofs.lemmas.Bool.Decides.{nat_tests}
use Rattle.std.specs.Prelude.{Ok, Err, Some, None}
use Rattle.word.specs.Refusals.{OrRefused, ◌>>=◌}
use Rattle.script.specs.Stage.{clean, Walked, goes, stops, onward}
use Rattle.script.specs.Stage.{First}
use Rattle.script.specs.Table.{read_s}
use Rattle.script.specs.Shape.{statements_in}
use Rattle.scoping.specs.Passes.{At, come, answered, statements_of, Turn, turn, closing, nested, enter_by, walk, Over, then_first, func_at, funcs_from}

-- how many statements a record is followed by
pub statements_are : (x : Record) → statements_in (read_s x) ≡ statements_of x
unfolding statements_in read_s statements_of
statements_are x = grind (arith, nat_tests)

module _ {A : Type 0} (T : Turn A) (t : List ℕ) (at : ℕ) (a : A) where
  pub walk_deep : (left : ℕ) → left ≡ 0 → answered (walk T t left at a) ≡ Ok (record { at = at }, a)
  unfolding walk answered
  walk_deep left e = rw e refl

  pub walk_end : (left : ℕ) → read_at t at ≡ None → answered (walk T t left at a) ≡ Ok (record { at = at }, a)
  unfolding walk enter_by answered
  walk_end zero e = refl
  walk_end (suc left) e = rw e refl

  pub walk_found : (left : ℕ) (x : Record) (m : Reader) → 0 < left → read_at t at ≡ Some (x, m)
      → walk T t left at a ≡ nested (walk T t (left - 1)) (closing (T.leave x.kind a)) (statements_of x) (T.enter a at x)
  unfolding walk enter_by
  walk_found zero x m some e = absurd (omega arith)
  walk_found (suc left) x m some e = let one : suc left - 1 ≡ left = omega arith in rw (e, one) refl

-- ---- the statements within one, in the code's turns
abbrev pub Answer : Type 0 → Type 0
Answer A = OrRefused (Reader × A)

unfoldable pub turns : {A : Type 0} → (ℕ → A → Answer A) → (A → A) → ℕ → Reader × A → Answer A
turns f leave zero s = Ok s
turns f leave (suc n) s = f s.0.at s.1 >>= λ r. turns f leave n (r.0, leave r.1)

module _ {A : Type 0} (f : ℕ → A → Walked (At A)) (leave : A → A) where
  abbrev F : ℕ → A → Answer A
  F at a = answered (f at a)

  by_one : (n : ℕ) (w : Walked (At A)) → ((v : Walked (At A)) → answered (nested f (closing leave) n v) ≡ (answered v >>= turns F leave n))
      → answered (nested f (closing leave) n (closing leave w)) ≡ (answered w >>= λ r. turns F leave n (r.0, leave r.1))
  unfolding answered closing
  by_one n (goes b) h = h (come b.at (leave b.state))
  by_one n (stops number place) h = h (stops number place)

  pub nested_turns : (n : ℕ) (w : Walked (At A)) → answered (nested f (closing leave) n w) ≡ (answered w >>= turns F leave n)
  unfolding nested answered turns onward closing
  nested_turns zero (goes b) = refl
  nested_turns zero (stops number place) = refl
  nested_turns (suc n) (goes b) = by_one n (f b.at b.state) (nested_turns n)
  nested_turns (suc n) (stops number place) = nested_turns n (stops number place)

-- what is left of the turns after k of n
pub turns_more : {A : Type 0} (f : ℕ → A → Answer A) (leave : A → A) (n k : ℕ) (s : Reader × A) → k < n
    → turns f leave (n - k) s ≡ (f s.0.at s.1 >>= λ r. turns f leave (n - (k + 1)) (r.0, leave r.1))
unfolding turns
turns_more f leave n k s h = let one : n - k ≡ suc (n - (k + 1)) = omega arith in rw one refl

pub turns_all : {A : Type 0} (f : ℕ → A → Answer A) (leave : A → A) (n k : ℕ) (s : Reader × A) → n ≤ k → turns f leave (n - k) s ≡ Ok s
unfolding turns
turns_all f leave n k s h = let none : n - k ≡ 0 = omega arith in rw none refl

pub turns_stop : {A : Type 0} (f : ℕ → A → Answer A) (leave : A → A) (n k : ℕ) (s : Reader × A) (r : Refusal) → k < n → f s.0.at s.1 ≡ Err r
    → turns f leave (n - k) s ≡ Err r
turns_stop f leave n k s r h e = turns_more f leave n k s h ∙ rw e refl

-- a statement by its record and where its expressions begin
pub walk_parts : {A : Type 0} (enter : A → ℕ → ℕ → Record → Walked (At A)) (leave : ℕ → A → A → A) (t : List ℕ) (at : ℕ) (a : A) (left : ℕ) (x : Record) (m : Reader) → 0 < left
    → read_at t at ≡ Some (x, m)
    → answered (walk (turn enter leave) t left at a)
    ≡ (answered (enter a at m.at x) >>= turns (λ i b. answered (walk (turn enter leave) t (left - 1) i b)) (leave x.kind a) (statements_in (read_s x)))
unfolding turn
walk_parts enter leave t at a left x m some e =
    let T = turn enter leave in
    let rest = λ (n : ℕ). turns (λ i b. answered (walk T t (left - 1) i b)) (leave x.kind a) n in
    ap answered (walk_found T t at a left x m some e) ∙ nested_turns (walk T t (left - 1)) (leave x.kind a) (statements_of x) (enter a at (at + 1) x)
    ∙ ap (λ (n : ℕ). answered (enter a at (at + 1) x) >>= rest n) (sym (statements_are x))
    ∙ ap (λ (i : ℕ). answered (enter a at i x) >>= rest (statements_in (read_s x))) (sym (read_found t at x m e).2)

-- ---- the functions, in the code's turns
module _ {M : Type 0} (O : Over M) (t : List ℕ) (at : ℕ) (m : M) (n k : ℕ) where
  pub funcs_all : n ≤ k → funcs_from O t (n - k) m at ≡ clean
  unfolding funcs_from
  funcs_all h = let none : n - k ≡ 0 = omega arith in rw none refl

  pub funcs_end : read_at t at ≡ None → funcs_from O t (n - k) m at ≡ clean
  unfolding funcs_from func_at
  funcs_end e = by (n - k)
    where
      by : (j : ℕ) → funcs_from O t j m at ≡ clean
      by zero = refl
      by (suc j) = rw e refl

  pub funcs_more : (x : Record) (on : Reader) → k < n → read_at t at ≡ Some (x, on)
      → funcs_from O t (n - k) m at ≡ then_first (O.body m x on.at) (funcs_from O t (n - (k + 1)) (O.note m x))
  unfolding funcs_from func_at
  funcs_more x on h e = let one : n - k ≡ suc (n - (k + 1)) = omega arith in rw (one, e) refl

-- a function, by the walk over its statement
pub body_answered : {A : Type 0} (w : Walked (At A)) (next : ℕ → First) → then_first (onward w (λ b. goes b.at)) next ≡ (answered w >>= λ r. next r.0.at)
unfolding then_first onward answered
body_answered (goes b) next = refl
body_answered (stops number place) next = refl
