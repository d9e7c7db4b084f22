-- The stages' flat definitions, worked out on small tables. Assumes nothing.
use Prim.Native.Nat.{ℕ}
use mathlib.Core.Path.{◌≡◌, refl}
use mathlib.Core.List.{List, [], ◌∷◌, ◌++◌}
use Rattle.word.specs.Records.{rec, words_of, records_of}
use Rattle.word.specs.Slots.{here}
use Rattle.word.specs.Sets.{has, toggle, turned, put, below}
use Rattle.word.specs.Reader.{read_at, found_if}
use Rattle.word.specs.declared.Record.{Record}
use Rattle.script.specs.Stage.{clean, fault, or_else, after, onward}
use Rattle.script.specs.Scope.{settable}
use Rattle.script.specs.Types.{require}
use Rattle.scoping.specs.Passes.{turn, heading_of, heading, params_of, noted, arity_of, expressions_of, statements_of, closing, nested, enter_by, walk, then_first, func_at, funcs_from, staged}
use Rattle.scoping.specs.Scoped.{seen_of, hides, seek_at, seek, declarable, own, declares, shown, closed_by, entering, scoping, parameters_of, scoped_func, scoped}
use Rattle.stages.specs.Typed.{no_parts, with_part, gather, code_type, code_fits, type_by, fits_by, judged, untyped, typed_by, typed_at, suits_by, settled, judged_s, typing_at, typing, typed_func, typed}
use Rattle.stages.specs.Stored.{met, store_at, storing, stored}

-- everything that computes there, by one name for each stage
scope_computes : ℕ
unfolding words_of records_of here has toggle turned put below read_at found_if or_else after onward settable heading_of heading statements_of closing nested enter_by turn walk then_first func_at funcs_from staged seen_of hides seek_at seek declarable own declares shown closed_by entering scoping parameters_of scoped_func scoped
scope_computes = 0

type_computes : ℕ
unfolding words_of records_of here has toggle turned put read_at found_if or_else after onward require heading_of heading params_of noted arity_of expressions_of statements_of closing nested enter_by turn walk then_first func_at funcs_from staged no_parts with_part gather code_type code_fits type_by fits_by judged untyped typed_by typed_at suits_by settled judged_s typing_at typing typed_func typed
type_computes = 0

store_computes : ℕ
unfolding words_of records_of read_at found_if heading_of heading met store_at storing stored
store_computes = 0

-- one function with p parameters and q slots, without arrays
abbrev alone : ℕ → ℕ → List Record → List ℕ
alone p q body = words_of (rec 1 1 0 0 ∷ rec 3 p q 0 ∷ body)

-- a helper with one parameter, whose statement is one record or two, and the exposed function; one array
abbrev two : List Record → List Record → List ℕ
two helper body = words_of (rec 1 2 1 0 ∷ rec 2 4 0 0 ∷ rec 3 1 1 0 ∷ (helper ++ (rec 3 0 1 0 ∷ body)))

-- ---- scope
-- DEF 1 (VAR 1): a slot is not visible in its own expression
own_expression : scoped (alone 1 2 (rec 32 1 0 0 ∷ rec 23 1 0 0 ∷ [])) ≡ fault 8 3
unfolding scope_computes
own_expression = refl

-- SET of a parameter
set_parameter : scoped (alone 1 1 (rec 33 0 0 0 ∷ rec 20 5 0 0 ∷ [])) ≡ fault 9 2
unfolding scope_computes
set_parameter = refl

-- DEF 1 in both branches
both_branches : scoped (alone 1 2 (rec 36 0 0 0 ∷ rec 21 0 0 0 ∷ rec 32 1 0 0 ∷ rec 20 1 0 0 ∷ rec 32 1 0 0 ∷ rec 20 2 0 0 ∷ [])) ≡ fault 8 6
unfolding scope_computes
both_branches = refl

-- SET of a loop slot: 9 in the loop, 8 after it
in_the_loop : scoped (alone 0 1 (rec 35 0 0 3 ∷ rec 33 0 0 0 ∷ rec 20 1 0 0 ∷ [])) ≡ fault 9 3
unfolding scope_computes
in_the_loop = refl

after_the_loop : scoped (alone 0 1 (rec 31 2 0 0 ∷ rec 35 0 0 3 ∷ rec 30 0 0 0 ∷ rec 33 0 0 0 ∷ rec 20 1 0 0 ∷ [])) ≡ fault 8 5
unfolding scope_computes
after_the_loop = refl

-- DEF 1 (VAR 0); RETURN (VAR 1)
seen_after : scoped (alone 1 2 (rec 31 2 0 0 ∷ rec 32 1 0 0 ∷ rec 23 0 0 0 ∷ rec 37 0 0 0 ∷ rec 23 1 0 0 ∷ [])) ≡ clean
unfolding scope_computes
seen_after = refl

-- ---- types
-- RETURN (TRUE & 1): the whole's fault comes first, and the operator has its left side's type
return_mixed : typed (alone 0 0 (rec 37 0 0 0 ∷ rec 27 6 0 0 ∷ rec 21 0 0 0 ∷ rec 20 1 0 0 ∷ [])) ≡ fault 10 2
unfolding type_computes
return_mixed = refl

-- RETURN (1 & TRUE): a number, whose operator is at fault
mixed : typed (alone 0 0 (rec 37 0 0 0 ∷ rec 27 6 0 0 ∷ rec 20 1 0 0 ∷ rec 21 0 0 0 ∷ [])) ≡ fault 10 3
unfolding type_computes
mixed = refl

-- IF 1
condition_one : typed (alone 0 0 (rec 36 0 0 0 ∷ rec 20 1 0 0 ∷ rec 30 0 0 0 ∷ rec 30 0 0 0 ∷ [])) ≡ fault 10 2
unfolding type_computes
condition_one = refl

-- DEF 0 TRUE; SET 0 FALSE; SET 0 1
set_other : typed (alone 0 1 (rec 31 3 0 0 ∷ rec 32 0 0 0 ∷ rec 21 0 0 0 ∷ rec 33 0 0 0 ∷ rec 22 0 0 0 ∷ rec 33 0 0 0 ∷ rec 20 1 0 0 ∷ [])) ≡ fault 10 7
unfolding type_computes
set_other = refl

-- RETURN (CALL 0 TRUE), and RETURN (CALL 0 1)
argument : typed (two (rec 30 0 0 0 ∷ []) (rec 37 0 0 0 ∷ rec 28 0 0 0 ∷ rec 21 0 0 0 ∷ [])) ≡ fault 10 6
unfolding type_computes
argument = refl

called : typed (two (rec 30 0 0 0 ∷ []) (rec 37 0 0 0 ∷ rec 28 0 0 0 ∷ rec 20 1 0 0 ∷ [])) ≡ clean
unfolding type_computes
called = refl

-- ---- stores
in_a_helper : stored (two (rec 34 0 0 0 ∷ rec 20 0 0 0 ∷ rec 20 1 0 0 ∷ []) (rec 30 0 0 0 ∷ [])) ≡ fault 11 3
unfolding store_computes
in_a_helper = refl

in_the_exposed : stored (two (rec 30 0 0 0 ∷ []) (rec 34 0 0 0 ∷ rec 20 0 0 0 ∷ rec 20 1 0 0 ∷ [])) ≡ clean
unfolding store_computes
in_the_exposed = refl
