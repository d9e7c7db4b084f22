-- The functions that the scan knows, and those of a tree: their parameters and steps; and what the check asks of the steps (30). Assumes nothing.
use mathlib.Core.Path.{◌≡◌, refl, sym, ap, ◌∙◌}
use mathlib.Core.Bool.{Bool, true, false}
use mathlib.Core.List.{List, [], ◌∷◌, ◌++◌, map, map-append}
use mathlib.Core.Logic.{◌⊎◌, inl, inr}
use Prim.Native.Nat.{ℕ, ◌≤◌, ◌<◌}
use native.Mathlib.Nat.{eq-or-lt_of_le}
use native.Mathlib.Omega.{arith}
use borrow.Author.Tests.{leb-true, le-leb}
use lib.Dec.{leb}
use lib.ListN.{length, get_or, length-append, length-map, get_or-append, get_or-map}
use lib.Seq.{get_or-append_seam}
use Rattle.tape.specs.Steps.{most}
use Rattle.tape.specs.Scan.{Known}
use Rattle.tape.specs.Check.{unless_over, within}
use Rattle.tape.specs.Check.{Checked}
use Rattle.tape.proofs.Places.{never}
use Rattle.tape.proofs.Limits.{Each, none, one}
use Rattle.std.specs.Prelude.{Ok}

-- what the scan says of a function that it does not know
abbrev pub unknown : Known
unknown = record { params = 0; steps = 0; place = 0 }

-- function f has π f parameters, and the steps are these, in order
pub record Knows (known : List Known) (π : ℕ → ℕ) (steps : List ℕ) : Type 0 where
  pub params : (f : ℕ) → f < length known → (get_or known f unknown).params ≡ π f
  pub all_steps : map (λ f. f.steps) known ≡ steps

pub knows_none : (π : ℕ → ℕ) → Knows [] π []
knows_none π = record { params = λ f h. absurd (omega arith); all_steps = refl }

module _ {known : List Known} {π : ℕ → ℕ} {steps : List ℕ} (k : Knows known π steps) where
  pub knows_steps : (f : ℕ) → (get_or known f unknown).steps ≡ get_or steps f 0
  knows_steps f = sym (get_or-map (λ g. g.steps) known f unknown) ∙ ap (λ (l : List ℕ). get_or l f 0) k.all_steps

  pub knows_length : length known ≡ length steps
  knows_length = sym (length-map known (λ g. g.steps)) ∙ ap length k.all_steps

  pub knows_on : {π₁ : ℕ → ℕ} → ((f : ℕ) → f < length known → π f ≡ π₁ f) → Knows known π₁ steps
  knows_on agree = record { params = λ f h. k.params f h ∙ agree f h; all_steps = k.all_steps }

  -- one more
  pub knows_more : (g : Known) → g.params ≡ π (length known) → Knows (known ++ g ∷ []) π (steps ++ g.steps ∷ [])
  knows_more g e =
      record {
        params = λ f h. by f (eq-or-lt_of_le (omega (arith, length-append known (g ∷ []))));
        all_steps = map-append (λ x. x.steps) known (g ∷ []) ∙ ap (λ (l : List ℕ). l ++ g.steps ∷ []) k.all_steps;
      }
    where
      by : (f : ℕ) → (f ≡ length known) ⊎ (f < length known) → (get_or (known ++ g ∷ []) f unknown).params ≡ π f
      by f (inl q) = rw (q, get_or-append_seam known g [] unknown) e
      by f (inr l) = rw (get_or-append known (g ∷ []) unknown f l) (k.params f l)

-- ---- 30: no function is over the limit
not_over : (b : Bool) (place m : ℕ) (rest : Checked) → unless_over b place rest ≡ Ok m → (b ≡ true) × (rest ≡ Ok m)
unfolding unless_over
not_over true place m rest e = (refl, e)
not_over false place m rest e = absurd (never e)

pub within_most : (known : List Known) (n m : ℕ) → within known (Ok n) ≡ Ok m → Each (λ k. k ≤ most) (map (λ f. f.steps) known) × (n ≡ m)
unfolding within
within_most [] n m e = (none, cc)
within_most (f ∷ known) n m e =
    let (b, rest) = not_over (leb f.steps most) f.place m (within known (Ok n)) e in
    let (each, last) = within_most known n m rest in
    (one (leb-true f.steps most b) each, last)

pub most_within : (known : List Known) (answer : Checked) → Each (λ k. k ≤ most) (map (λ f. f.steps) known) → within known answer ≡ answer
unfolding within unless_over
most_within [] answer none = refl
most_within (f ∷ known) answer (one h r) = rw (le-leb f.steps most h) (most_within known answer r)
