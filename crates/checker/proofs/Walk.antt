-- The scan from a record on: it ends, it stops at a fault, or it goes on; and what comes after the scan, by the first function over the limit.
-- Assumes nothing.
use Prim.Native.Nat.{ℕ, zero, suc, ◌+◌, ◌-◌, ◌≤◌, ◌<◌}
use native.Mathlib.Nat.{eq-or-lt_of_le, le_of_suc-le-suc}
use native.Mathlib.Omega.{arith}
use mathlib.Core.Path.{◌≡◌, refl, sym, ap, ◌∙◌}
use mathlib.Core.Logic.{⊎_elim}
use mathlib.Core.Bool.{false, true≢false}
use mathlib.Core.List.{List, [], ◌∷◌, ◌++◌}
use borrow.Author.Tests.{le-leb, lt-leb}
use lib.ListN.{get_or, drop}
use Rattle.word.specs.Records.{records, record_at, records_of}
use Rattle.word.proofs.Walk.{walk_on, walk_end}
use Rattle.tape.specs.Instruction.{read}
use Rattle.tape.specs.Steps.{most}
use Rattle.tape.specs.Scan.{Due, a_program, an_array, a_function, a_body, nothing, Known, Scan, next}
use Rattle.tape.specs.Faults.{more, fault}
use Rattle.tape.specs.Check.{Checked, unless_over, within, at_end, judge, scan}
use Rattle.std.specs.Prelude.{Some, None, Ok}
use Rattle.word.specs.Refusals.{refuse}
use Rattle.checker.specs.declared.standing.Standing.{Standing}
use Rattle.checker.specs.declared.standing.Functions.{Functions}
use Rattle.checker.specs.declared.standing.Bodies.{Bodies}
use Rattle.checker.specs.Standing.{due_of, known_of, known_to, scan_of}
use Rattle.checker.specs.Ready.{Room, FirstOver}
use Rattle.checker.proofs.Rows.{known_length, known_at_lem}

-- ---- the scan
pub judge_refused : (n at : ℕ) (r : Checked) → (n ≡ 0 → ⊥) → judge n at r ≡ refuse n at
unfolding judge
judge_refused zero at r h = absurd (h refl)
judge_refused (suc n) at r h = refl

module _ (t : List ℕ) (s : Scan) (at : ℕ) where
  pub scan_end : records t ≤ at → scan s at (drop at (records_of t)) ≡ at_end (more s.due) s at
  unfolding scan
  scan_end h = rw (walk_end t at h) refl

  pub scan_stop : (n : ℕ) (r : Checked) → at < records t → fault s (record_at t at) ≡ n → (n ≡ 0 → ⊥) → scan s at (drop at (records_of t)) ≡ judge n at r
  unfolding scan
  scan_stop n r h e k = rw (walk_on t at h, e) (judge_refused n at _ k ∙ sym (judge_refused n at r k))

  pub scan_on : at < records t → fault s (record_at t at) ≡ 0
      → scan s at (drop at (records_of t)) ≡ scan (next s at (read (record_at t at))) (at + 1) (drop (at + 1) (records_of t))
  unfolding scan judge
  scan_on h e = rw (walk_on t at h, e) refl

-- ---- 30
within_append : (ks ls : List Known) (r : Checked) → within (ks ++ ls) r ≡ within ks (within ls r)
unfolding within
within_append [] ls r = refl
within_append (k ∷ ks) ls r = ap (unless_over _ k.place) (within_append ks ls r)

module _ (f : Functions) where
  pub none_over : (n : ℕ) (r : Checked) → ((i : ℕ) → i < n → get_or f.steps i 0 ≤ most) → within (known_to f n) r ≡ r
  unfolding known_to within unless_over
  none_over zero r h = refl
  none_over (suc n) r h =
      within_append (known_to f n) (known_of f n ∷ []) r
      ∙ none_over n _ (λ i l. h i (omega arith))
      ∙ rw (le-leb (get_or f.steps n 0) most (h n (omega arith))) refl

  pub one_over : (n i : ℕ) (r : Checked) → i < n → ((j : ℕ) → j < i → get_or f.steps j 0 ≤ most) → most < get_or f.steps i 0
      → within (known_to f n) r ≡ refuse 30 (get_or f.places i 0)
  unfolding known_to within unless_over
  one_over zero i r l h o = absurd (omega arith)
  one_over (suc n) i r l h o =
      within_append (known_to f n) (known_of f n ∷ []) r
      ∙ ⊎_elim (λ e. none_over n _ (λ j m. h j (rw e m)) ∙ rw (← e, lt-leb (get_or f.steps i 0) most o) refl) (λ m. one_over n i _ m h o)
      (eq-or-lt_of_le (le_of_suc-le-suc l))

-- ---- the end, where nothing more is due
pub room_end : (d : Due) (k n : ℕ) → more d ≡ false → Room d k n → 0 < k
unfolding more
room_end a_program k n e r = absurd (true≢false e)
room_end an_array k n e r = absurd (true≢false e)
room_end a_function k n e r = absurd (true≢false e)
room_end a_body k n e r = absurd (true≢false e)
room_end nothing k n e r = r

module _ (s : Standing) (f : Functions) (b : Bodies) (at : ℕ) (ends : more (due_of s.due) ≡ false) where
  pub end_over : (i : ℕ) → FirstOver f.steps s.known (Some i) → at_end (more (due_of s.due)) (scan_of s f b) at ≡ refuse 30 (get_or f.places i 0)
  unfolding at_end scan_of
  end_over i h = rw ends (one_over f s.known i _ h.0 h.1 h.2)

  pub end_within : 0 < s.known → FirstOver f.steps s.known None → at_end (more (due_of s.due)) (scan_of s f b) at ≡ Ok (get_or f.steps (s.known - 1) 0)
  unfolding at_end scan_of
  end_within some h =
      let last = ap (λ (k : Known). k.steps) (known_at_lem f s.known (s.known - 1) (omega arith)) in
      rw (ends, known_length f s.known, last) (none_over f s.known _ h)
