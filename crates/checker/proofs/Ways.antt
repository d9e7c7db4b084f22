-- The ways through the scan's loops, over plain values: what is known of the record that is read, of the search for its slot, and that each way out
-- of the scan has the definition's answer. Assumes nothing.
use Prim.Native.Nat.{ℕ, suc, ◌+◌, ◌-◌, ◌≤◌, ◌<◌}
use native.Mathlib.Omega.{arith}
use mathlib.Core.Path.{◌≡◌, sym, ap, ◌∙◌}
use mathlib.Core.Bool.{true, false, ◌||◌}
use mathlib.Core.List.{List}
use lib.Dec.{ltb}
use Rattle.word.specs.Records.{records, record_at, records_of}
use Rattle.word.specs.Reader.{read_at}
use Rattle.word.specs.Slots.{hidden}
use Rattle.word.specs.declared.Record.{Record}
use Rattle.word.specs.declared.reason.Reason.{Reason}
use Rattle.word.specs.declared.reader.Reader.{Reader}
use Rattle.std.specs.Prelude.{Some, None, Result, is_err}
use Rattle.word.proofs.Walk.{read_found, read_end}
use Rattle.tape.specs.Scan.{start}
use Rattle.tape.specs.Faults.{more, fault}
use Rattle.tape.specs.Check.{Checked, at_end, judge, scan}
use Rattle.checker.specs.declared.standing.Standing.{Standing}
use Rattle.checker.specs.declared.standing.Functions.{Functions}
use Rattle.checker.specs.declared.standing.Bodies.{Bodies}
use Rattle.checker.specs.Standing.{due_of, rank, shown_by, searched_of, least_of, most_of, scope_at, scan_of}
use Rattle.checker.specs.Ready.{Room, said, fault_but}
use Rattle.checker.proofs.Allowed.{deep_is, known_is, room_is}
use Rattle.checker.proofs.Clear.{fault_first, said_none, said_some}
use Rattle.checker.proofs.Search.{shown_on}
use Rattle.checker.proofs.SlotRule.{searched_le}
use Rattle.checker.proofs.Leaving.{body_shows, slot_refused, slot_allowed, slot_barred}
use Rattle.checker.proofs.Scanned.{Stands, stands_end, stands_stop}

-- ---- between two records
module _ {t : List ℕ} {s : Standing} {f : Functions} {b : Bodies} {at : ℕ} (here : Stands t s f b at) where
  pub known_room : s.known ≤ 16
  known_room = omega (arith, known_is s f b, here.within.known)

  pub room_of : Room (due_of s.due) s.known s.functions
  room_of = room_is s f b here.within

  pub body_room : (kind d₀ d : ℕ) → d₀ ≡ searched_of kind s.deep → d ≤ d₀ → d < 9
  body_room kind d₀ d e h = omega (arith, searched_le kind s.deep, deep_is s f b, here.within.loops)

  -- after the last record
  pub scan_ends : None ≡ read_at t at → judge 0 at (at_end (more (due_of s.due)) (scan_of s f b) at) ≡ scan start 0 (records_of t)
  scan_ends e = stands_end t s f b at here (read_end t at (sym e))

  -- a record is read
  module _ {x : Record} {m : Reader} (e : Some (x, m) ≡ read_at t at) where
    pub is_there : (at < records t) × (x ≡ record_at t at) × (m.at ≡ at + 1)
    is_there = read_found t at x m (sym e)

    stops : (n : ℕ) (r : Checked) → fault (scan_of s f b) x ≡ n → (n ≡ 0 → ⊥) → judge n at r ≡ scan start 0 (records_of t)
    stops n r is h = stands_stop t s f b at here x is_there.0 is_there.1 n r is h

    -- it has a fault, its slot apart
    pub fault_stops : (r : Checked) (found : Result (Unit {0}) Reason) → said found ≡ fault_but (scan_of s f b) x → is_err found ≡ true
        → judge (said found) at r ≡ scan start 0 (records_of t)
    fault_stops r found is e =
        let some : fault_but (scan_of s f b) x ≡ 0 → ⊥ = λ none. said_some found e (is ∙ none) in
        rw is (stops (fault_but (scan_of s f b) x) r (fault_first (scan_of s f b) x some) some)

-- ---- in the search: the record has no fault but for its slot, and no body that was searched, from d₀ to d, shows the slot
pub record Searched (s : Standing) (f : Functions) (b : Bodies) (x : Record) (high d₀ d : ℕ) : Type 0 where
  pub clear : fault_but (scan_of s f b) x ≡ 0
  pub most : high ≡ most_of x.kind
  pub from : d₀ ≡ searched_of x.kind s.deep
  pub so_far : scope_at s.params b d₀ x.p ≡ scope_at s.params b d x.p

pub searched : {s : Standing} {f : Functions} {b : Bodies} {x : Record} (found : Result (Unit {0}) Reason) {high d₀ d : ℕ}
    → said found ≡ fault_but (scan_of s f b) x → is_err found ≡ false
    → high ≡ most_of x.kind → d₀ ≡ searched_of x.kind s.deep → scope_at s.params b d₀ x.p ≡ scope_at s.params b d x.p → Searched s f b x high d₀ d
searched {s} {f} {b} {x} found is e most from so_far =
    record { clear = sym is ∙ said_none found e; most = most; from = from; so_far = so_far }

-- one body further out
pub further : (p : ℕ) (b : Bodies) (x d : ℕ) → 0 < d → shown_by b d x ≡ hidden → scope_at p b d x ≡ scope_at p b (d - 1) x
further p b x d some none =
    let e : d ≡ suc (d - 1) = omega arith in
    ap (λ (k : ℕ). scope_at p b k x) e ∙ shown_on p b (d - 1) x (ap (λ (k : ℕ). shown_by b k x) (sym e) ∙ none)

module _ {s : Standing} {f : Functions} {b : Bodies} {x : Record} {high d₀ d : ℕ} (q : Searched s f b x high d₀ d) where
  -- what body d shows forbids the record
  pub barred : 0 < d → high < rank (shown_by b d x.p) → fault (scan_of s f b) x ≡ 29
  unfolding rank
  barred some over =
      let shows = body_shows s.params b x.p d some (λ k. omega (arith, ap rank k)) in
      slot_barred s f b x q.clear (rank (shown_by b d x.p)) high d₀ d q.most q.from q.so_far (ap rank (sym shows)) over

  -- what is visible in body d forbids it, or allows it
  pub refused : (n : ℕ) → n ≡ rank (scope_at s.params b d x.p) → ltb n (least_of x.kind) || ltb high n ≡ true → fault (scan_of s f b) x ≡ 29
  refused n seen out = slot_refused s f b x q.clear n high d₀ d q.most q.from q.so_far seen out

  pub allowed : (n : ℕ) → n ≡ rank (scope_at s.params b d x.p) → ltb n (least_of x.kind) || ltb high n ≡ false → fault (scan_of s f b) x ≡ 0
  allowed n seen out = slot_allowed s f b x q.clear n high d₀ d q.most q.from q.so_far seen out

-- 29, at the record that is read
pub slot_stops : {t : List ℕ} {s : Standing} {f : Functions} {b : Bodies} {at : ℕ} {x : Record} {m : Reader} → Stands t s f b at → Some (x, m) ≡ read_at t at
    → (r : Checked) → fault (scan_of s f b) x ≡ 29 → judge 29 at r ≡ scan start 0 (records_of t)
slot_stops here e r is = stops here e 29 r is (λ k. omega arith)
