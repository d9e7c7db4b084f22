-- What the code of the check keeps of a scan: numbers by value (`Standing`) and rows that are lent (`Functions`, `Bodies`); and the scan that they
-- stand for. No public contract speaks of these. Assumes nothing: these are definitions.
use Rattle.std.specs.Prelude.{ℕ, zero, suc, ◌/◌, ◌%◌, ◌^◌, List, [], ◌∷◌, ◌++◌, Bool, ◌&&◌, ◌||◌, ◌==◌, if◌then◌else◌, nat_lt, slice_index}
use Rattle.std.specs.Int.Bits.{bit_or}
use Rattle.word.specs.Slots.{here, Seen, hidden, fixed, defined, Scope, begin}
use Rattle.tape.specs.Scan.{Due as Awaited, a_program, an_array, a_function, a_body, nothing, Known, Open, Scan}
use Rattle.checker.specs.declared.standing.Due.{Due}
use Rattle.checker.specs.declared.standing.Due.TheVariants.{Program, Array, Function, Body, Nothing}
use Rattle.checker.specs.declared.slots.Seen.{Seen as Shown}
use Rattle.checker.specs.declared.slots.Seen.TheVariants.{Hidden, Defined, Fixed}
use Rattle.checker.specs.declared.standing.Standing.{Standing}
use Rattle.checker.specs.declared.standing.Functions.{Functions}
use Rattle.checker.specs.declared.standing.Bodies.{Bodies}

-- ---- a set of slots below 64: slot p at bit p
unfoldable pub has : ℕ → ℕ → Bool
has w p = nat_lt p 64 && (w / 2 ^ p % 2 == 1)

unfoldable pub insert : ℕ → ℕ → ℕ
insert w p = bit_or w (2 ^ p)

-- ---- what is visible of a slot, as a number: the order is the slot rule's, from what a FOR may name to what only a VAR and a RET may
unfoldable pub rank : Seen → ℕ
rank hidden = 0
rank defined = 1
rank fixed = 2

-- what the code's three stand for
unfoldable pub seen_of : Shown → Seen
seen_of Hidden = hidden
seen_of Defined = defined
seen_of Fixed = fixed

-- what a body shows, or else what those round it show
unfoldable pub onto : Seen → Seen → Seen
onto hidden outer = outer
onto fixed outer = fixed
onto defined outer = defined

-- a loop's body shows its DEFs and its FOR's slot
unfoldable pub shown_by : Bodies → ℕ → ℕ → Seen
shown_by b d x = here (has (slice_index b.defs d) x) defined (here (x == slice_index b.slots d) fixed hidden)

-- by a record's kind: how many loops are searched for its slot, and the least and the most that it may find
unfoldable pub searched_of : ℕ → ℕ → ℕ
searched_of kind deep = if kind == 11 || kind == 16 || kind == 17 || kind == 19 || kind == 21 then deep else 0

unfoldable pub least_of : ℕ → ℕ
least_of kind = if kind == 11 || kind == 17 || kind == 21 then 1 else 0

unfoldable pub most_of : ℕ → ℕ
most_of kind = if kind == 16 || kind == 17 then 1 else (if kind == 19 then 0 else 2)

-- ---- the scan that it stands for
unfoldable pub due_of : Due → Awaited
due_of Program = a_program
due_of Array = an_array
due_of Function = a_function
due_of Body = a_body
due_of Nothing = nothing

abbrev pub known_of : Functions → ℕ → Known
known_of f i = record { params = slice_index f.params i; steps = slice_index f.steps i; place = slice_index f.places i }

-- the first n
unfoldable pub known_to : Functions → ℕ → List Known
known_to f zero = []
known_to f (suc n) = known_to f n ++ (known_of f n ∷ [])

-- what is visible in body d, with those round it
unfoldable pub scope_at : ℕ → Bodies → ℕ → Scope
scope_at params b zero x = here (has (slice_index b.defs 0) x) defined (begin params x)
scope_at params b (suc d) x = onto (shown_by b (suc d) x) (scope_at params b d x)

-- the loops round body d, the innermost first
unfoldable pub opens_at : ℕ → Bodies → ℕ → List Open
opens_at params b zero = []
opens_at params b (suc d) =
    record { passes = slice_index b.passes (suc d); scope = scope_at params b d; steps = slice_index b.counts d } ∷ opens_at params b d

unfoldable pub scan_of : Standing → Functions → Bodies → Scan
scan_of s f b =
    record {
      due = due_of s.due;
      functions = s.functions;
      arrays = s.arrays;
      known = known_to f s.known;
      params = s.params;
      slots = s.slots;
      place = s.place;
      body = record {
        scope = scope_at s.params b s.deep;
        operands = s.operands;
        steps = s.steps;
        loops = opens_at s.params b s.deep;
      };
    }
