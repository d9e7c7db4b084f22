-- What is kept of the functions, one after another: their steps, and the row of deepest IF nestings. Assumes nothing.
use mathlib.Core.Path.{◌≡◌, sym, ◌∙◌}
use mathlib.Core.List.{List, [], ◌∷◌, ◌++◌, append_assoc, append-nil}
use Prim.Native.Nat.{ℕ, suc, ◌<◌}
use native.Mathlib.Decide.{ℕ_discrete}
use lib.ListN.{length, get_or, set as keep}
use lib.Seq.{get_or-set_same, get_or-set_other}
use Rattle.script.specs.Tree.{Func}
use Rattle.tape.specs.Core.{CFunc}
use Rattle.tape.specs.Steps.{steps_f, steps_from}
use Rattle.tape.proofs.Costs.{known_last, known_other}
use Rattle.translation.specs.Translate.{depth}

-- ---- their steps
unfoldable pub rest_from : List ℕ → List CFunc → List ℕ
rest_from known [] = []
rest_from known (f ∷ fs) =
    let n = steps_f (λ g. get_or known g 0) f in
    n ∷ rest_from (known ++ (n ∷ [])) fs

pub steps_rest : (known : List ℕ) (fs : List CFunc) → steps_from known fs ≡ known ++ rest_from known fs
unfolding steps_from rest_from
steps_rest known [] = sym (append-nil known)
steps_rest known (f ∷ fs) =
    let n = steps_f (λ g. get_or known g 0) f in
    steps_rest (known ++ (n ∷ [])) fs ∙ append_assoc known (n ∷ []) (rest_from (known ++ (n ∷ [])) fs)

-- a row of steps says what is known, and nothing of the other functions
abbrev pub Says : List ℕ → List ℕ → Type 0
Says κ known = (g : ℕ) → get_or κ g 0 ≡ get_or known g 0

pub says_more : (κ known : List ℕ) (f n : ℕ) → length known ≡ f → f < length κ → Says κ known → Says (keep κ f n) (known ++ (n ∷ []))
says_more κ known f n l room says g = by (ℕ_discrete g f)
  where
    by : Dec (g ≡ f) → get_or (keep κ f n) g 0 ≡ get_or (known ++ (n ∷ [])) g 0
    by (yes e) = rw e (get_or-set_same κ f n 0 room ∙ sym (known_last known n f (sym l)))
    by (no d) = get_or-set_other κ f g n 0 d ∙ says g ∙ sym (known_other known n g (λ e. d (e ∙ l)))

-- ---- the row of deepest IF nestings after functions f and those that follow
unfoldable pub deeps_after : List ℕ → ℕ → List Func → List ℕ
deeps_after deeps f [] = deeps
deeps_after deeps f (g ∷ gs) = deeps_after (keep deeps f (depth g.body)) (suc f) gs
