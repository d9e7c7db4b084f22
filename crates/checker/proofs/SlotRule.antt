-- The slot rule (29) by the order hidden, DEF'd, fixed: each record's slot is in its range. Assumes nothing.
use Prim.Native.Nat.{ℕ, suc, ◌≤◌, ◌<◌}
use native.Mathlib.Nat.{eq-or-lt_of_le}
use native.Mathlib.Omega.{arith}
use mathlib.Core.Path.{◌≡◌, refl, sym, ap, subst, ◌∙◌}
use mathlib.Core.Logic.{⊎_elim, ◌⊎◌}
use mathlib.Core.Bool.{Bool, true, false, cond, ◌||◌}
use mathlib.Core.Bool.{not as negated}
use Rattle.std.proofs.lemmas.Bool.{cases_lt}
use lib.Dec.{ltb, eqb}
use Rattle.word.specs.Slots.{Seen, hidden, fixed, defined}
use Rattle.word.specs.declared.Record.{Record}
use Rattle.tape.specs.Instruction.{Instruction, program, array, cfunc, lit, var, get, not, bin, call, def, set, put, for, end, ret, read}
use Rattle.tape.specs.Scan.{Scan}
use Rattle.tape.specs.Faults.{readable, settable, definable, unnamed, asks}
use Rattle.checker.specs.declared.standing.Standing.{Standing}
use Rattle.checker.specs.declared.standing.Functions.{Functions}
use Rattle.checker.specs.declared.standing.Bodies.{Bodies}
use Rattle.checker.specs.Standing.{rank, searched_of, least_of, most_of, scope_at, scan_of}
use Rattle.tape.proofs.Cases.{read_program, read_array, read_cfunc, read_lit, read_var, read_get, read_not, read_bin, read_call, read_def, read_set, read_put, read_for, read_end, read_ret}

-- n is from `low` to `high`
abbrev pub between : ℕ → ℕ → ℕ → Bool
between low high n = negated (ltb n low || ltb high n)

reads : (v : Seen) → readable v ≡ between 1 2 (rank v)
unfolding readable rank
reads hidden = refl
reads fixed = refl
reads defined = refl

sets : (v : Seen) → settable v ≡ between 1 1 (rank v)
unfolding settable rank
sets hidden = refl
sets fixed = refl
sets defined = refl

defines : (v : Seen) → definable v ≡ between 0 1 (rank v)
unfolding definable rank
defines hidden = refl
defines fixed = refl
defines defined = refl

names : (v : Seen) → unnamed v ≡ between 0 0 (rank v)
unfolding unnamed rank
names hidden = refl
names fixed = refl
names defined = refl

any : (v : Seen) → true ≡ between 0 2 (rank v)
unfolding rank
any hidden = refl
any fixed = refl
any defined = refl

pub searched_le : (k d : ℕ) → searched_of k d ≤ d
unfolding searched_of
searched_le k d = either (eqb k 11 || eqb k 16 || eqb k 17 || eqb k 19 || eqb k 21) (omega arith)
  where
    either : (t : Bool) {n : ℕ} → n ≤ d → cond t d n ≤ d
    either true h = omega arith
    either false h = h

-- from a on: a, or from a + 1 on; and the last one
from : (P : ℕ → Type 0) (a k : ℕ) → a ≤ k → P a → (suc a ≤ k → P k) → P k
from P a k h here later = ⊎_elim (λ e. subst P e here) later (eq-or-lt_of_le h)

last : (P : ℕ → Type 0) (a k : ℕ) → a ≤ k → k ≤ a → P a → P k
last P a k h l here = let e : a ≡ k = omega arith in subst P e here

module _ (s : Standing) (f : Functions) (b : Bodies) (x : Record) (n : ℕ) where
  abbrev z : Scan
  z = scan_of s f b

  abbrev Rule : ℕ → Type 0
  Rule k = x.kind ≡ k → n ≡ rank (scope_at s.params b (searched_of k s.deep) x.p) → (asks z (read x)).slot ≡ between (least_of k) (most_of k) n

  -- a record whose instruction is i
  by : (i : Instruction) (v : Seen) (low high : ℕ) → read x ≡ i → (asks z i).slot ≡ between low high (rank v) → n ≡ rank v → (asks z (read x)).slot ≡ between low high n
  by i v low high e r h = ap (λ (j : Instruction). (asks z j).slot) e ∙ r ∙ ap (between low high) (sym h)

  seen : Seen
  seen = scope_at s.params b s.deep x.p

  none : Seen
  none = scope_at s.params b 0 x.p

  declarations : (k : ℕ) → 1 ≤ k → k ≤ 3 → Rule k
  unfolding asks searched_of least_of most_of none
  declarations k l h =
      from Rule 1 k l (λ e. by (program x.p x.q) none 0 2 (read_program x e) (any none)) (λ l.
      from Rule 2 k l (λ e. by (array x.p) none 0 2 (read_array x e) (any none)) (λ l.
      last Rule 3 k l h (λ e. by (cfunc x.p x.q) none 0 2 (read_cfunc x e) (any none))))

  expressions : (k : ℕ) → 10 ≤ k → k ≤ 15 → Rule k
  unfolding asks searched_of least_of most_of none seen scan_of
  expressions k l h =
      from Rule 10 k l (λ e. by (lit x.p) none 0 2 (read_lit x e) (any none)) (λ l.
      from Rule 11 k l (λ e. by (var x.p) seen 1 2 (read_var x e) (reads seen)) (λ l.
      from Rule 12 k l (λ e. by (get x.p) none 0 2 (read_get x e) (any none)) (λ l.
      from Rule 13 k l (λ e. by not none 0 2 (read_not x e) (any none)) (λ l.
      from Rule 14 k l (λ e. by (bin x.p) none 0 2 (read_bin x e) (any none)) (λ l.
      last Rule 15 k l h (λ e. by (call x.p) none 0 2 (read_call x e) (any none)))))))

  statements : (k : ℕ) → 16 ≤ k → k ≤ 21 → Rule k
  unfolding asks searched_of least_of most_of none seen scan_of
  statements k l h =
      from Rule 16 k l (λ e. by (def x.p) seen 0 1 (read_def x e) (defines seen)) (λ l.
      from Rule 17 k l (λ e. by (set x.p) seen 1 1 (read_set x e) (sets seen)) (λ l.
      from Rule 18 k l (λ e. by (put x.p) none 0 2 (read_put x e) (any none)) (λ l.
      from Rule 19 k l (λ e. by (for x.p x.q x.r) seen 0 0 (read_for x e) (names seen)) (λ l.
      from Rule 20 k l (λ e. by end none 0 2 (read_end x e) (any none)) (λ l.
      last Rule 21 k l h (λ e. by (ret x.p) seen 1 2 (read_ret x e) (reads seen)))))))

  body : (k : ℕ) → (15 < k) ⊎ (k ≤ 15) → 10 ≤ k → k ≤ 21 → Rule k
  body k c l h = ⊎_elim (λ high. statements k high h) (λ low. expressions k l low) c

  pub slot_rule : ((1 ≤ x.kind) × (x.kind ≤ 3)) ⊎ ((10 ≤ x.kind) × (x.kind ≤ 21))
      → n ≡ rank (scope_at s.params b (searched_of x.kind s.deep) x.p) → (asks z (read x)).slot ≡ between (least_of x.kind) (most_of x.kind) n
  slot_rule kind =
      ⊎_elim (λ h. declarations x.kind h.0 h.1 refl) (λ h. body x.kind (cases_lt 15 x.kind) h.0 h.1 refl) kind
