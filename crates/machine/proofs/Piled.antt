-- Operands in a flat list: a list of values, the topmost first, lies in it from `floor` up to n. Assumes nothing.
use mathlib.Core.Path.{◌≡◌, sym, ap, ◌∙◌, subst}
use mathlib.Core.List.{List, [], ◌∷◌}
use Prim.Native.Nat.{ℕ, suc, ◌+◌, ◌-◌, ◌≤◌, ◌<◌}
use native.Mathlib.Nat.{add-zero}
use native.Mathlib.Omega.{arith}
use lib.ListN.{length, get_or, set as put_at}
use lib.Seq.{get_or-set_same, get_or-set_other}

pub data Piled (l : List ℕ) (floor : ℕ) : ℕ → List ℕ → Type 0 where
  bare : Piled l floor floor []
  pile : {n v : ℕ} {s : List ℕ} → get_or l n 0 ≡ v → Piled l floor n s → Piled l floor (suc n) (v ∷ s)

pub piled_height : {l : List ℕ} {floor n : ℕ} {s : List ℕ} → Piled l floor n s → n ≡ floor + length s
piled_height {floor} bare = sym (add-zero floor)
piled_height (pile e p) = let h = piled_height p in omega arith

-- what lies at n or above does not matter
pub piled_above : {l : List ℕ} {floor n : ℕ} {s : List ℕ} (j v : ℕ) → n ≤ j → Piled l floor n s → Piled (put_at l j v) floor n s
piled_above j v h bare = bare
piled_above {l} j v h (pile {n} e p) = pile (get_or-set_other l j n v 0 (λ q. omega arith) ∙ e) (piled_above j v (omega arith) p)

-- one more
pub piled_on : {l : List ℕ} {floor n : ℕ} {s : List ℕ} (v : ℕ) → n < length l → Piled l floor n s → Piled (put_at l n v) floor (suc n) (v ∷ s)
piled_on {l} {n} v h p = pile (get_or-set_same l n v 0 h) (piled_above n v (omega arith) p)

-- the topmost one, and the two topmost, with what lies below
pub record Topped (l : List ℕ) (floor n v : ℕ) (s : List ℕ) : Type 0 where
  pub is : get_or l (n - 1) 0 ≡ v
  pub some : 1 ≤ n
  pub below : Piled l floor (n - 1) s

pub topped : {l : List ℕ} {floor n v : ℕ} {s : List ℕ} → Piled l floor n (v ∷ s) → Topped l floor n v s
topped {l} {floor} {s} (pile {n} e p) =
    let q : suc n - 1 ≡ n = omega arith in
    record { is = ap (λ (k : ℕ). get_or l k 0) q ∙ e; some = omega arith; below = subst (λ (k : ℕ). Piled l floor k s) (sym q) p }

pub record Twice (l : List ℕ) (floor n u v : ℕ) (s : List ℕ) : Type 0 where
  pub upper : get_or l (n - 1) 0 ≡ v
  pub lower : get_or l (n - 2) 0 ≡ u
  pub some : 2 ≤ n
  pub below : Piled l floor (n - 2) s

pub twice : {l : List ℕ} {floor n u v : ℕ} {s : List ℕ} → Piled l floor n (v ∷ u ∷ s) → Twice l floor n u v s
twice {l} {floor} {s} (pile e (pile {n} d p)) =
    let q : suc (suc n) - 1 ≡ suc n = omega arith in
    let r : suc (suc n) - 2 ≡ n = omega arith in
    record {
      upper = ap (λ (k : ℕ). get_or l k 0) q ∙ e;
      lower = ap (λ (k : ℕ). get_or l k 0) r ∙ d;
      some = omega arith;
      below = subst (λ (k : ℕ). Piled l floor k s) (sym r) p;
    }

-- the topmost one replaced, and the two topmost by one
pub piled_top : {l : List ℕ} {floor n v : ℕ} {s : List ℕ} (w : ℕ) → n ≤ length l → Piled l floor n (v ∷ s) → Piled (put_at l (n - 1) w) floor n (w ∷ s)
piled_top {l} {floor} {n} {s} w h p =
    let t = topped p in
    let k = t.some in
    let q : suc (n - 1) ≡ n = omega arith in
    subst (λ (k : ℕ). Piled (put_at l (n - 1) w) floor k (w ∷ s)) q (piled_on w (omega arith) t.below)

pub piled_two : {l : List ℕ} {floor n u v : ℕ} {s : List ℕ} (w : ℕ) → n ≤ length l → Piled l floor n (v ∷ u ∷ s) → Piled (put_at l (n - 2) w) floor (n - 1) (w ∷ s)
piled_two {l} {floor} {n} {s} w h p =
    let t = twice p in
    let k = t.some in
    let q : suc (n - 2) ≡ n - 1 = omega arith in
    subst (λ (k : ℕ). Piled (put_at l (n - 2) w) floor k (w ∷ s)) q (piled_on w (omega arith) t.below)
