-- A call's operands become the callee's first slots: as values, and in the flat lists. Assumes nothing.
use mathlib.Core.Path.{◌≡◌, refl, sym, ap, ◌∙◌, subst}
use mathlib.Core.List.{List, [], ◌∷◌}
use mathlib.Core.Logic.{⊎_elim}
use Prim.Native.Nat.{ℕ, zero, suc, ◌+◌, ◌-◌, ◌≤◌, ◌<◌}
use native.Mathlib.Nat.{eq-or-lt_of_le, le_of_suc-le-suc}
use native.Mathlib.Omega.{arith}
use lib.ListN.{length, get_or, set as put_at, drop, length-set}
use lib.Seq.{get_or-set_same}
use Rattle.tape.specs.Rules.{Machine, grab}
use Rattle.machine.specs.Flat.{copied}
use Rattle.machine.proofs.Piled.{Piled, bare, pile, piled_height}
use Rattle.machine.proofs.Moving.{below_put}

-- the p topmost values, the lowest first, before those in vs
unfoldable pub handed : ℕ → List ℕ → List ℕ → List ℕ
handed zero s vs = vs
handed (suc p) [] vs = vs
handed (suc p) (v ∷ s) vs = handed p s (v ∷ vs)

pub grab_handed : (p : ℕ) (s vs : List ℕ) (g : List ℕ → List ℕ → Machine) → p ≤ length s → grab p s vs g ≡ g (handed p s vs) (drop p s)
unfolding grab handed
grab_handed zero s vs g h = refl
grab_handed (suc p) [] vs g h = absurd (omega arith)
grab_handed (suc p) (v ∷ s) vs g h = grab_handed p s (v ∷ vs) g (omega arith)

-- past those already there
handed_past : (p : ℕ) (s vs : List ℕ) (k : ℕ) → p ≤ length s → get_or (handed p s vs) (p + k) 0 ≡ get_or vs k 0
unfolding handed
handed_past zero s vs k h = let e : 0 + k ≡ k = omega arith in ap (λ (n : ℕ). get_or vs n 0) e
handed_past (suc p) [] vs k h = absurd (omega arith)
handed_past (suc p) (v ∷ s) vs k h =
    let e : suc p + k ≡ p + suc k = omega arith in
    ap (λ (n : ℕ). get_or (handed p s (v ∷ vs)) n 0) e ∙ handed_past p s (v ∷ vs) (suc k) (omega arith)

-- what is handed over at k lies among the operands
pub handed_at : {l : List ℕ} {floor n : ℕ} (p : ℕ) {s : List ℕ} (vs : List ℕ) → Piled l floor n s → p ≤ length s → (k : ℕ) → k < p
    → get_or (handed p s vs) k 0 ≡ get_or l (n - p + k) 0
unfolding handed
handed_at zero vs q h k z = absurd (omega arith)
handed_at (suc p) vs bare h k z = absurd (omega arith)
handed_at {l} (suc p) {s = v ∷ s} vs (pile {n} e q) h k z =
    ⊎_elim
    (λ (c : k ≡ p).
    let x : p ≡ p + 0 = omega arith in
    let y : n ≡ suc n - suc p + k = omega (arith, piled_height q) in
    ap (λ (i : ℕ). get_or (handed p s (v ∷ vs)) i 0) (c ∙ x) ∙ handed_past p s (v ∷ vs) 0 (omega arith) ∙ sym e ∙ ap (λ (i : ℕ). get_or l i 0) y)
    (λ (c : k < p).
    let y : n - p + k ≡ suc n - suc p + k = omega arith in
    handed_at p (v ∷ vs) q (omega arith) k c ∙ ap (λ (i : ℕ). get_or l i 0) y)
    (eq-or-lt_of_le (le_of_suc-le-suc z))

-- the operands below
pub piled_drop : {l : List ℕ} {floor n : ℕ} (p : ℕ) {s : List ℕ} → Piled l floor n s → p ≤ length s → Piled l floor (n - p) (drop p s)
piled_drop {l} {floor} {n} zero {s} q h = let e : n ≡ n - 0 = omega arith in subst (λ (k : ℕ). Piled l floor k s) e q
piled_drop (suc p) bare h = absurd (omega arith)
piled_drop {l} {floor} (suc p) {s = v ∷ s} (pile {n} e q) h =
    let x : n - p ≡ suc n - suc p = omega arith in
    subst (λ (k : ℕ). Piled l floor k (drop p s)) x (piled_drop p q (omega arith))

-- ---- copied to the slots from j on
pub copied_below : (n : ℕ) (from : List ℕ) (i : ℕ) (to : List ℕ) (j k : ℕ) → k < j → get_or (copied n from i to j) k 0 ≡ get_or to k 0
unfolding copied
copied_below zero from i to j k h = refl
copied_below (suc n) from i to j k h = copied_below n from (i + 1) (put_at to j (get_or from i 0)) (j + 1) k (omega arith) ∙ below_put to j (get_or from i 0) k h

pub copied_length : (n : ℕ) (from : List ℕ) (i : ℕ) (to : List ℕ) (j : ℕ) → length (copied n from i to j) ≡ length to
unfolding copied
copied_length zero from i to j = refl
copied_length (suc n) from i to j = copied_length n from (i + 1) (put_at to j (get_or from i 0)) (j + 1) ∙ length-set to j (get_or from i 0)

pub copied_at : (n : ℕ) (from : List ℕ) (i : ℕ) (to : List ℕ) (j k : ℕ) → k < n → j + n ≤ length to → get_or (copied n from i to j) (j + k) 0 ≡ get_or from (i + k) 0
unfolding copied
copied_at zero from i to j k h l = absurd (omega arith)
copied_at (suc n) from i to j zero h l =
    let e : j + 0 ≡ j = omega arith in
    let d : i ≡ i + 0 = omega arith in
    ap (λ (z : ℕ). get_or (copied n from (i + 1) (put_at to j (get_or from i 0)) (j + 1)) z 0) e
    ∙ copied_below n from (i + 1) (put_at to j (get_or from i 0)) (j + 1) j (omega arith) ∙ get_or-set_same to j (get_or from i 0) 0 (omega arith)
    ∙ ap (λ (z : ℕ). get_or from z 0) d
copied_at (suc n) from i to j (suc k) h l =
    let e : j + suc k ≡ j + 1 + k = omega arith in
    let d : i + 1 + k ≡ i + suc k = omega arith in
    ap (λ (z : ℕ). get_or (copied n from (i + 1) (put_at to j (get_or from i 0)) (j + 1)) z 0) e
    ∙ copied_at n from (i + 1) (put_at to j (get_or from i 0)) (j + 1) k (omega arith) (omega (arith, length-set to j (get_or from i 0))) ∙ ap (λ (z : ℕ). get_or from z 0) d
