-- The rows that the code keeps of a scan: how long the lists are that they stand for, what stands in them, and that a store past the end of them
-- changes nothing. Assumes nothing.
use Prim.Native.Nat.{ℕ, zero, suc, ◌+◌, ◌≤◌, ◌<◌}
use native.Mathlib.Nat.{eq-or-lt_of_le, le_of_suc-le-suc}
use native.Mathlib.Omega.{arith}
use native.Mathlib.Numerals.{add-one}
use mathlib.Core.Path.{◌≡◌, refl, sym, ap, ap₂, ◌∙◌, fun_ext}
use mathlib.Core.Logic.{⊎_elim}
use mathlib.Core.Bool.{Bool, true, false, cond, ◌||◌}
use borrow.Author.Tests.{ltb-true, ltb-false}
use mathlib.Core.List.{List, [], ◌∷◌, ◌++◌}
use lib.ListN.{length, get_or, set, length-append, get_or-append, get_or-eq_default}
use lib.Seq.{get_or-set_same, get_or-set_other, get_or_at}
use lib.Dec.{ltb, eqb}
use Rattle.word.specs.Slots.{here, upd, Seen, hidden, fixed, defined, begin}
use Rattle.tape.specs.Scan.{Known}
use Rattle.checker.specs.declared.standing.Functions.{Functions}
use Rattle.checker.specs.declared.standing.Bodies.{Bodies}
use Rattle.checker.specs.Standing.{has, insert, onto, shown_by, known_of, known_to, scope_at, opens_at}
use Rattle.checker.proofs.Sets.{has_insert, has_none}

abbrev pub nobody : Known
nobody = record { params = 0; steps = 0; place = 0 }

-- ---- the functions that are known
pub known_length : (f : Functions) (n : ℕ) → length (known_to f n) ≡ n
unfolding known_to
known_length f zero = refl
known_length f (suc n) = length-append (known_to f n) (known_of f n ∷ []) ∙ ap (λ (m : ℕ). m + 1) (known_length f n) ∙ add-one n

pub known_frame : (f g : Functions) (n : ℕ) → ((i : ℕ) → i < n → known_of f i ≡ known_of g i) → known_to f n ≡ known_to g n
unfolding known_to
known_frame f g zero h = refl
known_frame f g (suc n) h =
    ap₂ (λ (ks : List Known) (k : Known). ks ++ (k ∷ [])) (known_frame f g n (λ i l. h i (omega arith))) (h n (omega arith))

known_before : (f : Functions) (n i : ℕ) (k : Known) → i < n → get_or (known_to f n ++ (k ∷ [])) i nobody ≡ get_or (known_to f n) i nobody
known_before f n i k l = get_or-append (known_to f n) (k ∷ []) nobody i (rw (known_length f n) l)

pub known_at_lem : (f : Functions) (n i : ℕ) → i < n → get_or (known_to f n) i nobody ≡ known_of f i
unfolding known_to
known_at_lem f zero i l = absurd (omega arith)
known_at_lem f (suc n) i l =
    ⊎_elim (λ e. ap (λ (j : ℕ). get_or (known_to f n ++ (known_of f n ∷ [])) j nobody) e ∙ get_or_at (known_to f n) (known_of f n) [] nobody n (known_length f n) ∙ ap (known_of f) (sym e))
    (λ h. known_before f n i (known_of f n) h ∙ known_at_lem f n i h) (eq-or-lt_of_le (le_of_suc-le-suc l))

pub known_past : (f : Functions) (n i : ℕ) → n ≤ i → get_or (known_to f n) i nobody ≡ nobody
known_past f n i h = get_or-eq_default (known_to f n) nobody {n = i} (rw (known_length f n) h)

params_by : (f : Functions) (n i : ℕ) (t : Bool) → ltb i n ≡ t → (get_or (known_to f n) i nobody).params ≡ cond t (get_or f.params i 0) 0
params_by f n i true e = ap (λ (k : Known). k.params) (known_at_lem f n i (ltb-true i n e))
params_by f n i false e = ap (λ (k : Known). k.params) (known_past f n i (ltb-false i n e))

pub params_at_lem : (f : Functions) (n i : ℕ) → (get_or (known_to f n) i nobody).params ≡ cond (ltb i n) (get_or f.params i 0) 0
params_at_lem f n i = params_by f n i (ltb i n) refl

-- ---- the open loops
pub opens_length : (p : ℕ) (b : Bodies) (d : ℕ) → length (opens_at p b d) ≡ d
unfolding opens_at
opens_length p b zero = refl
opens_length p b (suc d) = ap suc (opens_length p b d)

abbrev SameTo : List ℕ → List ℕ → ℕ → Type 0
SameTo xs ys n = (i : ℕ) → i < n → get_or xs i 0 ≡ get_or ys i 0

fewer : (xs ys : List ℕ) (n : ℕ) → SameTo xs ys (suc n) → SameTo xs ys n
fewer xs ys n h i l = h i (omega arith)

scope_at_frame : (p : ℕ) (b c : Bodies) (d : ℕ) → SameTo b.slots c.slots (suc d) → SameTo b.defs c.defs (suc d)
    → (x : ℕ) → scope_at p b d x ≡ scope_at p c d x
unfolding scope_at shown_by
scope_at_frame p b c zero hs hd x = rw (hd 0 (omega arith))
scope_at_frame p b c (suc d) hs hd x =
    let rest = scope_at_frame p b c d (fewer b.slots c.slots (suc d) hs) (fewer b.defs c.defs (suc d) hd) x in
    let slot = hs (suc d) (omega arith) in
    let defs = hd (suc d) (omega arith) in
    rw (defs, slot, rest)

pub scope_frame : (p : ℕ) (b c : Bodies) (d : ℕ) → SameTo b.slots c.slots (suc d) → SameTo b.defs c.defs (suc d)
    → scope_at p b d ≡ scope_at p c d
scope_frame p b c d hs hd = fun_ext (scope_at_frame p b c d hs hd)

-- body d's own slot and set are not asked for
pub opens_frame : (p : ℕ) (b c : Bodies) (d : ℕ) → SameTo b.slots c.slots d → SameTo b.defs c.defs d
    → SameTo b.passes c.passes (suc d) → SameTo b.counts c.counts d → opens_at p b d ≡ opens_at p c d
unfolding opens_at
opens_frame p b c zero hs hd hp hc = refl
opens_frame p b c (suc d) hs hd hp hc =
    let rest = opens_frame p b c d (fewer b.slots c.slots d hs) (fewer b.defs c.defs d hd) (fewer b.passes c.passes (suc d) hp) (fewer b.counts c.counts d hc) in
    let scope = scope_frame p b c d hs hd in
    let passes = hp (suc d) (omega arith) in
    let steps = hc d (omega arith) in
    rw (passes, scope, steps, rest)

-- a store at or past n
pub store_past : (xs : List ℕ) (i v n : ℕ) → n ≤ i → SameTo (set xs i v) xs n
store_past xs i v n h j l = get_or-set_other xs i j v 0 (omega arith)

-- ---- what is visible
or_here : (a b : Bool) (s t : Seen) → here (a || b) s t ≡ here a s (here b s t)
unfolding here
or_here true b s t = refl
or_here false b s t = refl

onto_here : (a : Bool) (s t : Seen) → onto (here a defined s) t ≡ here a defined (onto s t)
unfolding here onto
onto_here true s t = refl
onto_here false s t = refl

onto_fixed : (a : Bool) (t : Seen) → onto (here a fixed hidden) t ≡ here a fixed t
unfolding here onto
onto_fixed true t = refl
onto_fixed false t = refl

-- ---- the stores
-- body d has this set of DEFs
abbrev pub with_defs : Bodies → ℕ → ℕ → Bodies
with_defs b d v = record b { defs = set b.defs d v }

-- DEF: one slot more in the set of body d
abbrev pub def_body : Bodies → ℕ → ℕ → Bodies
def_body b d x = with_defs b d (insert (get_or b.defs d 0) x)

-- FOR: a body more, past body d, whose slot is x; it makes n passes, and body d waits at k steps
abbrev pub for_body : Bodies → ℕ → ℕ → ℕ → ℕ → Bodies
for_body b d x n k =
    record { slots = set b.slots (suc d) x; passes = set b.passes (suc d) n; counts = set b.counts d k; defs = set b.defs (suc d) 0 }

module _ (p : ℕ) (b : Bodies) where
  round : (d v : ℕ) → scope_at p (with_defs b (suc d) v) d ≡ scope_at p b d
  round d v = scope_frame p _ _ d (λ i l. refl) (store_past b.defs (suc d) v (suc d) (omega arith))

  def_at : (d x y : ℕ) → x < 64 → d < length b.defs → scope_at p (def_body b d x) d y ≡ upd (scope_at p b d) x defined y
  unfolding scope_at shown_by upd
  def_at zero x y h l =
      rw (get_or-set_same b.defs 0 (insert (get_or b.defs 0 0) x) 0 l, has_insert (get_or b.defs 0 0) x y h) (or_here (eqb y x) (has (get_or b.defs 0 0) y) defined (begin p y))
  def_at (suc d) x y h l =
      let w = get_or b.defs (suc d) 0 in
      let own = here (eqb y (get_or b.slots (suc d) 0)) fixed hidden in
      let rest = scope_at p b d y in
      rw (get_or-set_same b.defs (suc d) (insert w x) 0 l, has_insert w x y h, round d (insert w x), or_here (eqb y x) (has w y) defined own, onto_here (eqb y x) (here (has w y) defined own) rest)

  pub scope_def : (d x : ℕ) → x < 64 → d < length b.defs → scope_at p (def_body b d x) d ≡ upd (scope_at p b d) x defined
  scope_def d x h l = fun_ext (λ y. def_at d x y h l)

  for_at : (d x n k y : ℕ) → suc d < length b.slots → suc d < length b.defs → scope_at p (for_body b d x n k) (suc d) y ≡ upd (scope_at p b d) x fixed y
  unfolding scope_at shown_by upd
  for_at d x n k y hs hd =
      let rest = scope_frame p (for_body b d x n k) b d (store_past b.slots (suc d) x (suc d) (omega arith)) (store_past b.defs (suc d) 0 (suc d) (omega arith)) in
      rw (get_or-set_same b.defs (suc d) 0 0 hd, has_none y, get_or-set_same b.slots (suc d) x 0 hs, rest) (unfold here in onto_fixed (eqb y x) (scope_at p b d y))

  pub scope_for : (d x n k : ℕ) → suc d < length b.slots → suc d < length b.defs → scope_at p (for_body b d x n k) (suc d) ≡ upd (scope_at p b d) x fixed
  scope_for d x n k hs hd = fun_ext (λ y. for_at d x n k y hs hd)

-- a function's body as it begins
pub scope_begin : (p : ℕ) (b : Bodies) → get_or b.defs 0 0 ≡ 0 → scope_at p b 0 ≡ begin p
unfolding scope_at here
scope_begin p b e = fun_ext (λ y. rw (e, has_none y))

pub scope_fresh : (p : ℕ) (b : Bodies) → length b.defs ≡ 9 → scope_at p (with_defs b 0 0) 0 ≡ begin p
scope_fresh p b l = scope_begin p (with_defs b 0 0) (get_or-set_same b.defs 0 0 0 (omega arith))
