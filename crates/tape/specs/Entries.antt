-- What a tape declares: its arrays' lengths, and its functions. Assumes nothing: these are definitions.
use Rattle.std.specs.Prelude.{ℕ, ◌-◌, List, [], ◌∷◌, length, get_or}
use Rattle.tape.specs.Instruction.{Instruction, Code, program, array, cfunc, lit, var, get, not, bin, call, def, set, put, for, end, ret, other}

-- what a CALL finds: the number of parameters, and the code
pub record Entry : Type 0 where
  pub params : ℕ
  pub code : Code

-- what a record declares: an array of this length, a function with so many parameters, or nothing
pub data Declares : Type 0 where
  length_of : ℕ → Declares
  params_of : ℕ → Declares
  nothing : Declares

unfoldable pub declares : Instruction → Declares
declares (program p q) = nothing
declares (array n) = length_of n
declares (cfunc p q) = params_of p
declares (lit v) = nothing
declares (var x) = nothing
declares (get a) = nothing
declares not = nothing
declares (bin o) = nothing
declares (call f) = nothing
declares (def x) = nothing
declares (set x) = nothing
declares (put a) = nothing
declares (for x q r) = nothing
declares end = nothing
declares (ret x) = nothing
declares other = nothing

unfoldable pub with_length : Declares → List ℕ → List ℕ
with_length (length_of n) lengths = n ∷ lengths
with_length (params_of p) lengths = lengths
with_length nothing lengths = lengths

unfoldable pub lengths_of : Code → List ℕ
lengths_of [] = []
lengths_of (i ∷ c) = with_length (declares i) (lengths_of c)

-- a function's code is what follows its CFUNC
unfoldable pub with_entry : Declares → Code → List Entry → List Entry
with_entry (length_of n) c entries = entries
with_entry (params_of p) c entries = record { params = p; code = c } ∷ entries
with_entry nothing c entries = entries

unfoldable pub entries_of : Code → List Entry
entries_of [] = []
entries_of (i ∷ c) = with_entry (declares i) c (entries_of c)

abbrev pub entry_at : Code → ℕ → Entry
entry_at c f = get_or (entries_of c) f (record { params = 0; code = [] })

-- "The last function is the exposed one."
abbrev pub exposed : Code → Entry
exposed c = entry_at c (length (entries_of c) - 1)
