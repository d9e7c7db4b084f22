-- How a table, a tape or a run is refused (01, "Refusal numbers"): by a number, at a place. Assumes nothing: these are definitions.
use Rattle.std.specs.Prelude.{ℕ, Bool, true, false, Result, Ok, Err}
use Rattle.word.specs.declared.Refusal.{Refusal}

-- what was asked for, or a refusal
abbrev pub OrRefused : Type 0 → Type 0
OrRefused A = Result A Refusal

abbrev pub refusal : ℕ → ℕ → Refusal
refusal number place = record { number = number; place = place }

abbrev pub refuse : {A : Type 0} → ℕ → ℕ → OrRefused A
refuse number place = Err (refusal number place)

-- a refusal where what is required is not met
abbrev pub required : Bool → ℕ → ℕ → OrRefused (Unit {0})
required true number place = Ok tt
required false number place = refuse number place

-- on with what was asked for; a refusal is the whole's
infixl 10 ◌>>=◌
abbrev pub ◌>>=◌ : {A B : Type 0} → OrRefused A → (A → OrRefused B) → OrRefused B
(Ok a) >>= f = f a
(Err r) >>= f = Err r
