-- What holds between two records of the scan: the bounds are kept, and what is left of the scan is the whole
-- scan's answer. Assumes nothing.
use Prim.Native.Nat.{ℕ, ◌+◌, ◌≤◌, ◌<◌}
use mathlib.Core.Path.{◌≡◌, refl, sym, ap, ◌∙◌, subst}
use mathlib.Core.List.{List}
use lib.ListN.{get_or, drop}
use Rattle.word.specs.Records.{records, record_at, records_of}
use Rattle.word.specs.declared.Record.{Record}
use Rattle.tape.specs.Instruction.{read}
use Rattle.tape.specs.Scan.{Scan, start, opening, next}
use Rattle.tape.specs.Faults.{more, fault}
use Rattle.tape.specs.Check.{Checked, at_end, judge, scan}
use Rattle.checker.specs.declared.standing.Due.TheVariants.{Program}
use Rattle.checker.specs.declared.standing.Standing.{Standing}
use Rattle.tape.specs.Held.{held}
use Rattle.checker.specs.declared.standing.Functions.{Functions}
use Rattle.checker.specs.declared.standing.Bodies.{Bodies}
use Rattle.checker.specs.Standing.{due_of, known_to, opens_at, scan_of}
use Rattle.checker.specs.Ready.{Within}
use Rattle.checker.proofs.Held.{scan_held, alike_within}
use Rattle.checker.proofs.Clear.{met}
use Rattle.checker.proofs.Bounds.{start_within, next_within}
use Rattle.checker.proofs.Rows.{scope_begin}
use Rattle.checker.proofs.Walk.{scan_end, scan_stop, scan_on}

pub record Stands (t : List ℕ) (s : Standing) (f : Functions) (b : Bodies) (at : ℕ) : Type 0 where
  pub within : Within (scan_of s f b)
  pub rest : scan (scan_of s f b) at (drop at (records_of t)) ≡ scan start 0 (records_of t)

-- before the first record
abbrev pub beginning : Standing
beginning =
    record { due = Program; functions = 0; arrays = 0; known = 0; params = 0; slots = 0; place = 0; operands = 0; steps = 0; deep = 0 }

pub begins : (f : Functions) (b : Bodies) → get_or b.defs 0 0 ≡ 0 → scan_of beginning f b ≡ start
unfolding start opening due_of known_to opens_at scan_of
begins f b e = rw (scope_begin 0 b e) refl

pub stands_first : (t : List ℕ) (s : Standing) (f : Functions) (b : Bodies) → scan_of s f b ≡ start → Stands t s f b 0
stands_first t s f b e =
    record { within = subst Within (sym e) start_within; rest = ap (λ (z : Scan). scan z 0 (records_of t)) e }

module _ (t : List ℕ) (s : Standing) (f : Functions) (b : Bodies) (at : ℕ) (here : Stands t s f b at) where
  -- after the last record
  pub stands_end : records t ≤ at → judge 0 at (at_end (more (due_of s.due)) (scan_of s f b) at) ≡ scan start 0 (records_of t)
  unfolding judge scan_of
  stands_end h = sym (scan_end t (scan_of s f b) at h) ∙ here.rest

  module _ (x : Record) (there : at < records t) (is : x ≡ record_at t at) where
    abbrev z : Scan
    z = scan_of s f b

    -- at a fault
    pub stands_stop : (n : ℕ) (r : Checked) → fault z x ≡ n → (n ≡ 0 → ⊥) → judge n at r ≡ scan start 0 (records_of t)
    stands_stop n r e h = sym (scan_stop t z at n r there (ap (fault z) (sym is) ∙ e) h) ∙ here.rest

    -- past a record that has none
    pub stands_on : (s' : Standing) (f' : Functions) (b' : Bodies) → fault z x ≡ 0
        → held (scan_of s' f' b') ≡ held (next z at (read x)) → Stands t s' f' b' (at + 1)
    stands_on s' f' b' clear alike =
        let on = scan_on t z at there (ap (fault z) (sym is) ∙ clear) in
        let same = ap (λ (y : Record). scan (next z at (read y)) (at + 1) (drop (at + 1) (records_of t))) is in
        record {
          within = alike_within (scan_of s' f' b') (next z at (read x)) alike (next_within z at x here.within (met z x clear));
          rest = scan_held (drop (at + 1) (records_of t)) (scan_of s' f' b') (next z at (read x)) (at + 1) alike ∙ same ∙ sym on ∙ here.rest;
        }
