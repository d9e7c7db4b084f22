-- The stage of types as the code has it: the slots that are booleans are a set, and an expression answers its type and the first fault in it. What it
-- says of a tree's table is `typed_is`: what `type_f` says of the tree's functions. Assumes nothing: these are definitions.
use Rattle.std.specs.Prelude.{ℕ, zero, suc, ◌+◌, Bool, true, false, cond, not, ◌&&◌, ◌||◌, List, leb, eqb, replicate}
use Rattle.word.specs.Reader.{read_at}
use Rattle.word.specs.Types.{Ty, number, boolean}
use Rattle.word.specs.Sets.{has, put}
use Rattle.word.specs.declared.Record.{Record}
use Rattle.word.specs.Reader.{Read}
use Rattle.std.specs.Prelude.{Some, None, unwrap_or}
use Rattle.script.specs.Stage.{clean, or_else, Walked, goes, after, onward}
use Rattle.script.specs.Types.{Types, require}
use Rattle.scoping.specs.Passes.{At, come, noted, expressions_of, arity_of, Turn, turn, walk, Over, staged}
use Rattle.script.specs.Stage.{First}
use Rattle.stages.specs.declared.types.Typed.{Typed}
use Rattle.stages.specs.declared.types.Parts.{Parts}

-- ---- types as tests
unfoldable pub ty_of : Bool → Ty
ty_of true = boolean
ty_of false = number

unfoldable pub is_boolean : Ty → Bool
is_boolean number = false
is_boolean boolean = true

unfoldable pub types_of : ℕ → Types
types_of slots = λ x. ty_of (has slots x)

-- ---- a record's parts
-- what is known of them: before any, and with one more
unfoldable pub no_parts : ℕ → Parts
no_parts at = record { lead = None; numbers = true; booleans = true; first = clean; next = record { at = at } }

unfoldable pub with_part : Parts → Typed → Parts
with_part z y =
    record {
      lead = Some (unwrap_or z.lead y.boolean);
      numbers = z.numbers && not y.boolean;
      booleans = z.booleans && y.boolean;
      first = or_else z.first y.first;
      next = y.next;
    }

-- whether the first of them is a boolean; without parts it matters to nobody
abbrev pub leading : Parts → Bool
leading z = unwrap_or z.lead false

-- so many, one after another
unfoldable pub gather : (ℕ → Typed) → ℕ → Parts → Parts
gather f zero z = z
gather f (suc n) z = gather f n (with_part z (f z.next.at))

-- ---- expressions
-- whether an operator's result is a boolean, and whether its sides are what it requires
unfoldable pub code_type : ℕ → Bool → Bool
code_type p lead = cond (leb p 5) false (cond (leb p 7) lead true)

unfoldable pub code_fits : ℕ → Bool → Bool → Bool
code_fits p numbers booleans = cond (leb p 5) numbers (cond (leb p 9) (numbers || booleans) (cond (leb p 13) numbers booleans))

unfoldable pub type_by : ℕ → Record → Bool → Bool
type_by slots x lead =
    cond (eqb x.kind 21) true
    (cond (eqb x.kind 22) true
    (cond (eqb x.kind 23) (has slots x.p)
    (cond (eqb x.kind 25) true
    (cond (eqb x.kind 27) (code_type x.p lead)
    false))))

unfoldable pub fits_by : Record → Bool → Bool → Bool
fits_by x numbers booleans = cond (eqb x.kind 25) booleans (cond (eqb x.kind 27) (code_fits x.p numbers booleans) numbers)

-- an expression by its record and its parts: its own fault comes first
unfoldable pub judged : ℕ → Record → ℕ → Parts → Typed
judged slots x at z =
    record {
      boolean = type_by slots x (leading z);
      first = or_else (require (fits_by x z.numbers z.booleans) at) z.first;
      next = z.next;
    }

unfoldable pub untyped : ℕ → Typed
untyped at = record { boolean = false; first = clean; next = record { at = at } }

unfoldable pub typed_by : List ℕ → ℕ → (ℕ → Typed) → ℕ → Read → Typed
typed_by params slots f at (Some (x, next)) = judged slots x at (gather f (arity_of params x) (no_parts next.at))
typed_by params slots f at None = untyped at

-- the expression at a record, to the depth that is left
unfoldable pub typed_at : List ℕ → List ℕ → ℕ → ℕ → ℕ → Typed
typed_at t params slots zero at = untyped at
typed_at t params slots (suc left) at = typed_by params slots (typed_at t params slots left) at (read_at t at)

-- ---- statements
unfoldable pub suits_by : ℕ → Record → Parts → Bool
suits_by slots x z =
    cond (eqb x.kind 33) (cond (has slots x.p) (leading z) (not (leading z)))
    (cond (eqb x.kind 34) z.numbers
    (cond (eqb x.kind 36) z.booleans
    (cond (eqb x.kind 37) z.numbers
    true)))

-- a DEF'd slot has its expression's type
unfoldable pub settled : ℕ → Record → Bool → ℕ
settled slots x lead = cond (eqb x.kind 32) (put slots x.p lead) slots

unfoldable pub judged_s : ℕ → Record → ℕ → Parts → Walked (At ℕ)
judged_s slots x at z = after (require (suits_by slots x z) at) (after z.first (come z.next.at (settled slots x (leading z))))

unfoldable pub typing_at : List ℕ → List ℕ → ℕ → ℕ → ℕ → Record → Walked (At ℕ)
typing_at t params slots at next x = judged_s slots x at (gather (typed_at t params slots 16) (expressions_of x.kind) (no_parts next))

-- a slot is declared once, so nothing is taken back
abbrev pub kept : ℕ → ℕ → ℕ → ℕ
kept kind outside inside = inside

unfoldable pub typing : List ℕ → List ℕ → Turn ℕ
typing t params = turn (typing_at t params) kept

-- ---- functions: how many parameters each one before has
pub record Known : Type 0 where
  pub func : ℕ
  pub params : List ℕ

unfoldable pub typed_func : List ℕ → Over Known
typed_func t =
    record {
      body = λ m x at. onward (walk (typing t m.params) t 16 at 0) (λ b. goes b.at);
      note = λ m x. record { func = m.func + 1; params = noted m.params m.func x.p };
    }

abbrev pub nobody : Known
nobody = record { func = 0; params = replicate 16 0 }

unfoldable pub typed : List ℕ → First
typed t = staged (typed_func t) t nobody
