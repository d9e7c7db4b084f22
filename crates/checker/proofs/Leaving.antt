-- How the search for a record's slot is left, and what then is the record's fault: 29, or none. Assumes nothing.
use Prim.Native.Nat.{ℕ, suc, ◌-◌, ◌<◌}
use native.Mathlib.Omega.{arith}
use mathlib.Core.Path.{◌≡◌, refl, sym, ap, ◌∙◌}
use mathlib.Core.Bool.{Bool, true, false, not, ◌||◌, or-true}
use borrow.Author.Tests.{lt-ltb}
use lib.Dec.{ltb}
use Rattle.word.specs.Slots.{hidden}
use Rattle.word.specs.declared.Record.{Record}
use Rattle.tape.specs.Scan.{Scan}
use Rattle.tape.specs.Faults.{unless, fault}
use Rattle.checker.specs.declared.standing.Standing.{Standing}
use Rattle.checker.specs.declared.standing.Functions.{Functions}
use Rattle.checker.specs.declared.standing.Bodies.{Bodies}
use Rattle.checker.specs.Standing.{rank, shown_by, searched_of, least_of, most_of, scope_at, scan_of}
use Rattle.checker.specs.Ready.{fault_but}
use Rattle.checker.proofs.Search.{shown_here}
use Rattle.checker.proofs.SlotRule.{between, slot_rule}
use Rattle.checker.proofs.Clear.{fault_last}
use Rattle.checker.proofs.Bounds.{kinds_clear}

-- body d shows the slot: that is what is visible in it
pub body_shows : (p : ℕ) (b : Bodies) (x d : ℕ) → 0 < d → (shown_by b d x ≡ hidden → ⊥) → scope_at p b d x ≡ shown_by b d x
body_shows p b x d h k =
    let e : d ≡ suc (d - 1) = omega arith in
    ap (λ (n : ℕ). scope_at p b n x) e
    ∙ shown_here p b (d - 1) x (λ z. k (ap (λ (n : ℕ). shown_by b n x) e ∙ z))
    ∙ ap (λ (n : ℕ). shown_by b n x) (sym e)

over_most : (low high n : ℕ) → high < n → between low high n ≡ false
over_most low high n h = rw (lt-ltb high n h) (ap not (or-true (ltb n low)))

-- the search came from body d₀ to body d, in which n is visible
module _ (s : Standing) (f : Functions) (b : Bodies) (x : Record) (clear : fault_but (scan_of s f b) x ≡ 0) where
  abbrev z : Scan
  z = scan_of s f b

  module _ (n high d₀ d : ℕ) (h : high ≡ most_of x.kind) (e : d₀ ≡ searched_of x.kind s.deep) (so_far : scope_at s.params b d₀ x.p ≡ scope_at s.params b d x.p) (is : n ≡ rank (scope_at s.params b d x.p)) where
    judged : fault z x ≡ unless (between (least_of x.kind) high n) 29 0
    judged =
        let seen = is ∙ ap rank (sym so_far) ∙ ap (λ (k : ℕ). rank (scope_at s.params b k x.p)) e in
        fault_last z x clear ∙ ap (λ (t : Bool). unless t 29 0) (slot_rule s f b x n (kinds_clear z x clear) seen)
        ∙ rw h refl

    pub slot_refused : ltb n (least_of x.kind) || ltb high n ≡ true → fault z x ≡ 29
    unfolding unless
    slot_refused t = judged ∙ rw t refl

    pub slot_allowed : ltb n (least_of x.kind) || ltb high n ≡ false → fault z x ≡ 0
    unfolding unless
    slot_allowed t = judged ∙ rw t refl

    pub slot_barred : high < n → fault z x ≡ 29
    unfolding unless
    slot_barred t = judged ∙ rw (over_most (least_of x.kind) high n t) refl
