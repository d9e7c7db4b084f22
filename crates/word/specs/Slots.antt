-- Slots, and what is known of them: maps from slot numbers. Assumes nothing: these are definitions.
use Rattle.std.specs.Prelude.{ℕ, Bool, true, false, List, ◌==◌, nat_lt, slice_index}

-- f, with a at x
unfoldable pub here : {A : Type 0} → Bool → A → A → A
here true a b = a
here false a b = b

unfoldable pub upd : {A : Type 0} → (ℕ → A) → ℕ → A → ℕ → A
upd f x a y = here (y == x) a (f y)

-- the values of a function's slots; it begins with its arguments in the first ones ("Parameters are slots 0 to p−1")
abbrev pub Slots : Type 0
Slots = ℕ → ℕ

abbrev pub fresh : List ℕ → Slots
fresh arguments x = slice_index arguments x

-- what is visible of a slot: nothing; a parameter's or a loop's, which "are read, never set"; or a DEF's
pub data Seen : Type 0 where
  hidden fixed defined : Seen

abbrev pub Scope : Type 0
Scope = ℕ → Seen

unfoldable pub parameter : Bool → Seen
parameter true = fixed
parameter false = hidden

-- the scope in which a function with p parameters begins
unfoldable pub begin : ℕ → Scope
begin p x = parameter (nat_lt x p)
