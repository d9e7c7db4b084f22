-- The types of expressions over the words of a table, turn by turn, as the code takes them. Assumes nothing.
use Prim.Native.Nat.{ℕ, zero, suc, ◌+◌, ◌-◌, ◌<◌, ◌≤◌}
use native.Mathlib.Omega.{arith}
use mathlib.Core.Path.{◌≡◌, refl, ◌∙◌}
use mathlib.Core.List.{List}
use Rattle.word.specs.Reader.{read_at}
use Rattle.word.specs.declared.Record.{Record}
use Rattle.word.specs.declared.reader.Reader.{Reader}
use Rattle.std.specs.Prelude.{Some, None}
use Rattle.word.specs.Refusals.{◌>>=◌}
use Rattle.scoping.specs.Passes.{arity_of, noted, turn, walk, answered, funcs_from}
use Rattle.scoping.proofs.Walking.{funcs_more, body_answered}
use Rattle.stages.specs.Typed.{no_parts, with_part, gather, judged, untyped, typed_by, typed_at, typing_at, kept, typing, Known, typed_func}
use Rattle.stages.specs.declared.types.Typed.{Typed}
use Rattle.stages.specs.declared.types.Parts.{Parts}

-- what is left after k of n
pub gather_more : (f : ℕ → Typed) (n k : ℕ) (z : Parts) → k < n → gather f (n - k) z ≡ gather f (n - (k + 1)) (with_part z (f z.next.at))
unfolding gather
gather_more f n k z h = let one : n - k ≡ suc (n - (k + 1)) = omega arith in rw one refl

pub gather_all : (f : ℕ → Typed) (n k : ℕ) (z : Parts) → n ≤ k → gather f (n - k) z ≡ z
unfolding gather
gather_all f n k z h = let none : n - k ≡ 0 = omega arith in rw none refl

module _ (t params : List ℕ) (slots at : ℕ) where
  pub typed_deep : (left : ℕ) → left ≡ 0 → typed_at t params slots left at ≡ untyped at
  unfolding typed_at
  typed_deep left e = rw e refl

  pub typed_end : (left : ℕ) → read_at t at ≡ None → typed_at t params slots left at ≡ untyped at
  unfolding typed_at typed_by
  typed_end zero e = refl
  typed_end (suc left) e = rw e refl

  pub typed_found : (left : ℕ) (x : Record) (m : Reader) → 0 < left → read_at t at ≡ Some (x, m)
      → typed_at t params slots left at ≡ judged slots x at (gather (typed_at t params slots (left - 1)) (arity_of params x) (no_parts m.at))
  unfolding typed_at typed_by
  typed_found zero x m some e = absurd (omega arith)
  typed_found (suc left) x m some e = let one : suc left - 1 ≡ left = omega arith in rw (e, one) refl

-- what is left of the functions after k of n: one, and those after it
pub typed_more : (t : List ℕ) (at n k : ℕ) (m : Known) (x : Record) (on : Reader) → k < n → read_at t at ≡ Some (x, on)
    → funcs_from (typed_func t) t (n - k) m at
    ≡ (answered (walk (turn (typing_at t m.params) kept) t 16 on.at 0)
    >>= λ r. funcs_from (typed_func t) t (n - (k + 1)) (record { func = m.func + 1; params = noted m.params m.func x.p }) r.0.at)
unfolding typed_func typing
typed_more t at n k m x on h found =
    funcs_more (typed_func t) t at m n k x on h found
    ∙ body_answered (walk (typing t m.params) t 16 on.at 0) (funcs_from (typed_func t) t (n - (k + 1)) (record { func = m.func + 1; params = noted m.params m.func x.p }))
