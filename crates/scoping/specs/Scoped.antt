-- The stage of scope as the code has it: what is visible and what was declared are sets of slots, and a statement's expressions are the records of
-- kinds 20 to 28 that follow it. What it says of a tree's table is `scoped_is`: what `scope_f` says of the tree's functions. Assumes nothing: these are
-- definitions.
use Rattle.std.specs.Prelude.{ℕ, ◌+◌, Bool, true, false, cond, not, ◌&&◌, ◌||◌, List, [], ◌∷◌, leb, eqb, drop}
use Rattle.word.specs.Records.{records_of}
use Rattle.word.specs.Slots.{here, Seen, hidden, fixed, defined}
use Rattle.word.specs.Sets.{has, put, below}
use Rattle.word.specs.Refusals.{required}
use Rattle.word.specs.declared.Record.{Record}
use Rattle.script.specs.Stage.{clean, Walked, goes, stops, after, onward}
use Rattle.script.specs.Scope.{Names, settable}
use Rattle.scoping.specs.Passes.{At, come, Turn, turn, walk, Over, staged}
use Rattle.script.specs.Stage.{First}
use Rattle.scoping.specs.declared.scope.Slots.{Slots}

-- ---- the sets as names
unfoldable pub seen_of : Slots → ℕ → Seen
seen_of a x = here (has a.defined x) defined (here (has a.fixed x) fixed hidden)

unfoldable pub names_of : Slots → Names
names_of a = record { seen = λ x. seen_of a x; declared = λ x. has a.declared x }

-- ---- expressions: a VAR of a slot that is not visible is 8
unfoldable pub hides : Slots → Record → Bool
hides a x = eqb x.kind 23 && not (has a.defined x.p || has a.fixed x.p)

unfoldable pub seek_at : Bool → Bool → ℕ → Walked ℕ → Walked ℕ
seek_at true true at next = stops 8 at
seek_at true false at next = next
seek_at false h at next = goes at

-- the first record that is no expression's
unfoldable pub seek : Slots → ℕ → List Record → Walked ℕ
seek a at [] = goes at
seek a at (x ∷ xs) = seek_at (leb 20 x.kind && leb x.kind 28) (hides a x) at (seek a (at + 1) xs)

-- ---- statements
-- a record's own fault: a slot that is declared again, or one that may not be set
unfoldable pub declarable : Bool → ℕ → First
declarable again at = required (not again) 8 at

unfoldable pub own : Slots → Record → ℕ → First
own a x at =
    cond (eqb x.kind 32) (declarable (has a.declared x.p) at)
    (cond (eqb x.kind 35) (declarable (has a.declared x.p) at)
    (cond (eqb x.kind 33) (settable (seen_of a x.p) at)
    clean))

-- slot x declared, as a loop's or not
unfoldable pub declares : Slots → ℕ → Bool → Slots
declares a x loop = record { defined = put a.defined x (not loop); fixed = put a.fixed x loop; declared = put a.declared x true }

-- what is visible after the record and its expressions
unfoldable pub shown : Slots → Record → Slots
shown a x = cond (eqb x.kind 32) (declares a x.p false) (cond (eqb x.kind 35) (declares a x.p true) a)

-- after a statement within one of this kind: the slots that were visible outside are visible again, unless it is a SEQ's, which is no scope
unfoldable pub closed_by : ℕ → Slots → Slots → Slots
closed_by kind a b = cond (eqb kind 31) b (record { defined = a.defined; fixed = a.fixed; declared = b.declared })

unfoldable pub entering : List ℕ → Slots → ℕ → ℕ → Record → Walked (At Slots)
entering t a at next x = after (own a x at) (onward (seek a next (drop next (records_of t))) (λ e. come e (shown a x)))

unfoldable pub scoping : List ℕ → Turn Slots
scoping t = turn (entering t) closed_by

-- ---- functions
unfoldable pub parameters_of : ℕ → Slots
parameters_of p = record { defined = 0; fixed = below p; declared = below p }

unfoldable pub scoped_func : List ℕ → Over (Unit {0})
scoped_func t =
    record { body = λ m x at. onward (walk (scoping t) t 16 at (parameters_of x.p)) (λ b. goes b.at); note = λ m x. tt }

unfoldable pub scoped : List ℕ → First
scoped t = staged (scoped_func t) t tt
