-- A refusal is its number and its place. Assumes nothing.
use Rattle.std.specs.Prelude.{◌≡◌, ℕ, Err}
use Rattle.std.proofs.Common.{ap}
use Rattle.word.specs.Refusals.{OrRefused, refuse}
use Rattle.word.specs.declared.Refusal.{Refusal}

module _ {A : Type 0} where
  pub refused_is : (r : Refusal) {number place : ℕ} → r.number ≡ number → r.place ≡ place → ◌≡◌ {A = OrRefused A} (Err r) (refuse number place)
  refused_is r e f = λ i. Err (record { number = e i; place = f i })

  pub refusal_of : {r s : Refusal} → ◌≡◌ {A = OrRefused A} (Err r) (Err s) → r ≡ s
  refusal_of e = cc

  pub refused_number : {m n i j : ℕ} → ◌≡◌ {A = OrRefused A} (refuse m i) (refuse n j) → m ≡ n
  refused_number e = ap (λ (r : Refusal). r.number) (refusal_of e)

  pub refused_place : {m n i j : ℕ} → ◌≡◌ {A = OrRefused A} (refuse m i) (refuse n j) → i ≡ j
  refused_place e = ap (λ (r : Refusal). r.place) (refusal_of e)
