-- What reading does behind the head of an array, of a function and of the program, as the definitions of reading have it. Assumes nothing.
use Rattle.std.proofs.Common.{ℕ, List, ◌∷◌}
use Rattle.script.specs.Tree.{Func, Program}
use Rattle.script.specs.Table.{Lead, HeadF, HeadP}
use Rattle.script.specs.Parse.{Parsed, parsed, and_then, parse_s, func_of, headed, parse_funcs, nowhere, parse_arrays, outermost, entered, passed}
use Rattle.script.specs.declared.Env.{Env}

abbrev pub array_headed : ℕ → List ℕ → ℕ → Lead ℕ → Parsed (List ℕ)
array_headed n t at = headed (λ l i. and_then (parse_arrays n t i) (λ ls j. parsed (l ∷ ls) j)) at

abbrev pub func_headed : ℕ → Env → List ℕ → ℕ → Lead HeadF → Parsed (List Func)
func_headed n v t at =
    headed
    (λ h i. and_then (parse_s 16 outermost (entered v h) t i) (λ s j. and_then (parse_funcs n (passed v h) t j) (λ fs k. parsed (func_of h s ∷ fs) k)))
    at

abbrev pub program_headed : List ℕ → ℕ → Lead HeadP → Parsed Program
program_headed t at =
    headed
    (λ h i.
    and_then (parse_arrays h.arrays t i) (λ ls j.
    and_then (parse_funcs h.functions (nowhere h.arrays) t j) (λ fs k. parsed (record { arrays = ls; funcs = fs }) k)))
    at
