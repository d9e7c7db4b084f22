-- `checker::check::scan` meets its contract: each way through its loops is a lemma of Ways. Assumes nothing.
use Prim.Native.Nat.{◌<◌}
use native.Mathlib.Omega.{arith}
use mathlib.Core.Path.{◌≡◌, refl, sym, ap, ◌∙◌}
use Rattle.std.proofs.Common.{rules}
use Rattle.word.specs.Slots.{hidden}
use Rattle.tape.specs.Faults.{more, fault}
use Rattle.tape.specs.Check.{at_end}
use Rattle.checker.specs.declared.standing.Standing.{Standing}
use Rattle.checker.specs.Standing.{due_of, rank, seen_of, shown_by, scan_of}
use Rattle.checker.specs.Ready.{said}
use Rattle.checker.proofs.Clear.{said_ok}
use Rattle.checker.proofs.Scanned.{beginning, begins, stands_first, stands_on}
use Rattle.checker.proofs.Ways.{known_room, room_of, body_room, scan_ends, is_there, fault_stops, searched, further, barred, refused, allowed, slot_stops}
use Rattle.checker.proofs.check.scan.Goals as goal
use Rattle.checker.proofs.check.scan.Goals.{in-Some+then-is_err, in-Some+else-is_err+then-bodies-test+then-lt, in-Some+else-is_err+then-outside, else-bodies-test, then-bodies-test+else-lt+then-ne, in_default, Else-outside}

pub scan-init : goal.scan-init
scan-init c =
    let h = c.default-s.ensures in
    let zeros : c.default-s.result ≡ beginning = search rules in
    (refl, rw c.new-at.ensures (stands_first _ _ _ _ (ap (λ (s : Standing). scan_of s c.default-functions.result c.default-bodies.result) zeros ∙ begins _ _ (c.default-bodies.ensures.1.1.1.at 0 0 (omega arith)))))

pub fault-found-requires : goal.fault-found-requires
fault-found-requires c = known_room c.scan.invariant.1

pub shown-shown-requires : goal.shown-shown-requires
shown-shown-requires c = body_room c.scan.invariant.1 _ _ _ c.searched-d.ensures c.bodies.invariant.0

pub bodies-preserved : goal.bodies-preserved
unfolding seen_of
bodies-preserved c =
    let none : seen_of c.shown-shown.result ≡ hidden = search rules in
    (omega (arith, c.bodies.invariant.0), c.bodies.invariant.1, c.bodies.invariant.2 ∙ further c.scan.s.params c.scan.bodies c.in-Some.x.p c.bodies.d c.bodies-test.true (sym c.shown-shown.ensures ∙ none))

pub visible-requires : goal.visible-requires
visible-requires c = body_room c.scan.invariant.1 _ _ _ c.searched-d.ensures c.bodies.invariant.0

-- the slot is allowed: the record has no fault
clear : (c : Else-outside) → fault (scan_of c.scan.s c.scan.functions c.scan.bodies) c.in-Some.x ≡ 0
unfolding seen_of
clear c =
    let shows : 0 < c.bodies.d → shown_by c.scan.bodies c.bodies.d c.in-Some.x.p ≡ hidden → ⊥ =
    λ some e. elim c.bodies-test.branch [ else-bodies-test w ↦ omega (arith, some, w.bodies-test.false) | then-bodies-test+else-lt+then-ne w ↦ let none : seen_of w.shown-shown.result ≡ hidden = w.shown-shown.ensures ∙ e in absurd (search rules) ] in
    let q = searched _ (c.fault-found.ensures _) (sym c.is_err.ensures.value ∙ c.if-is_err.false) c.most-most.ensures c.searched-d.ensures c.bodies.invariant.2 in
    allowed q _ (ap rank (c.visible.ensures shows)) (sym c.outside.ensures ∙ c.if-outside.false)

pub advance-s-requires : goal.advance-s-requires
advance-s-requires c = record { within = c.scan.invariant.1.within; clear = clear (goal.at.advance-s-requires c).Else-outside }

pub scan-smaller : goal.scan-smaller
scan-smaller c =
    let there = is_there c.scan.invariant.1 c.in-Some.ensures in
    omega (arith, there.0, there.2)

pub scan-preserved : goal.scan-preserved
scan-preserved c =
    let here = c.scan.invariant.1 in
    let there = is_there here c.in-Some.ensures in
    let none = said_ok _ (sym c.is_err.ensures.value ∙ c.if-is_err.false) in
    let on = stands_on c.args.tape.now c.scan.s c.scan.functions c.scan.bodies c.scan.at.at here c.in-Some.x there.0 there.1 c.advance-s.result c.advance-s.new.functions c.advance-s.new.bodies (clear (goal.at.scan-preserved c).Else-outside) c.advance-s.ensures in
    (c.bodies.invariant.1 ∙ none, rw there.2 on)

pub answer-requires : goal.answer-requires
answer-requires c = (known_room c.scan.invariant.1, room_of c.scan.invariant.1)

pub returns : goal.returns
unfolding said rank seen_of
returns c =
    let here = c.scan.invariant.1 in
    let rest = at_end (more (due_of c.scan.s.due)) (scan_of c.scan.s c.scan.functions c.scan.bodies) c.scan.at.at in
    elim c.match-next.branch [
      | in-Some+then-is_err w ↦
          c.answer.ensures c.scan.bodies ∙ rw w.found-is (fault_stops here w.in-Some.ensures rest _ (w.fault-found.ensures c.scan.bodies) (sym w.is_err.ensures.value ∙ w.if-is_err.true))
      | in-Some+else-is_err+then-bodies-test+then-lt w ↦
          let q = searched _ (w.fault-found.ensures _) (sym w.is_err.ensures.value ∙ w.if-is_err.false) w.most-most.ensures w.searched-d.ensures w.bodies.invariant.2 in
          let over : rank (seen_of w.most-most.result) < rank (seen_of w.shown-shown.result) = search rules in
          c.answer.ensures c.scan.bodies ∙ rw (ap said w.found-is) (slot_stops here w.in-Some.ensures rest (barred q w.bodies-test.true (rw (sym w.shown-shown.ensures) over)))
      | in-Some+else-is_err+then-outside w ↦
          let shows : 0 < w.bodies.d → shown_by c.scan.bodies w.bodies.d w.in-Some.x.p ≡ hidden → ⊥ =
          λ some e. elim w.bodies-test.branch [ else-bodies-test w' ↦ omega (arith, some, w'.bodies-test.false) | then-bodies-test+else-lt+then-ne w' ↦ let none : seen_of w'.shown-shown.result ≡ hidden = w'.shown-shown.ensures ∙ e in absurd (search rules) ] in
          let q = searched _ (w.fault-found.ensures _) (sym w.is_err.ensures.value ∙ w.if-is_err.false) w.most-most.ensures w.searched-d.ensures w.bodies.invariant.2 in
          c.answer.ensures c.scan.bodies ∙ rw (ap said w.found-is) (slot_stops here w.in-Some.ensures rest (refused q _ (ap rank (w.visible.ensures shows)) (sym w.outside.ensures ∙ w.if-outside.true)))
      | in_default w ↦ c.answer.ensures c.scan.bodies ∙ rw (ap said (w.found-is ∙ c.scan.invariant.0)) (scan_ends here (sym w.in_default.is ∙ c.next.ensures))
    ]
