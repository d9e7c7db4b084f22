-- A function just entered: its arguments lie in its first slots, it has no operands and no loops yet. Over an accepted tape. Assumes nothing.
use mathlib.Core.Path.{◌≡◌, sym, ap}
use mathlib.Core.List.{List, []}
use Prim.Native.Nat.{ℕ, suc, ◌+◌, ◌*◌, ◌≤◌, ◌<◌}
use native.Mathlib.Omega.{arith}
use lib.ListN.{length, get_or}
use Rattle.word.specs.Slots.{fresh}
use Rattle.tape.specs.Instruction.{cfunc}
use Rattle.tape.specs.Scan.{Scan, opening, enters, next}
use Rattle.tape.proofs.Places.{Passed}
use Rattle.tape.proofs.Steady.{begin_below}
use Rattle.tape.proofs.Entered.{StandsAt}
use Rattle.machine.specs.Flat.{Flat}
use Rattle.machine.proofs.Piled.{bare}
use Rattle.machine.proofs.Relation.{On, outside}
use Rattle.machine.proofs.Moving.{scan_next, next_record}

pub entering : (t : List ℕ) (m : ℕ) (a : Passed t m) (z : Flat) {f place params slots : ℕ} (n low base calls : ℕ) (arguments : List ℕ)
    → StandsAt t f place params slots → ((x : ℕ) → x < params → get_or z.slots (base + x) 0 ≡ get_or arguments x 0) → calls + f ≤ 15
    → n ≤ calls * 128 → low ≤ calls * 8 → base ≤ calls * 64 → On t z (suc place) 0 n n low low base (base + slots) calls [] (fresh arguments) []
unfolding next enters opening
entering t m a z {f} {place} {params} {slots} n low base calls arguments there agree rank floor loops slots_low =
    let g = scan_next t m a place (cfunc params slots) there.is in
    let due = ap (λ (y : Scan). y.due) g in
    record {
      on_tape = next_record t m a place there.there due;
      in_body_lem = due;
      piled = bare;
      height = omega (arith, ap (λ (y : Scan). y.body.operands) g);
      loops = rw (ap (λ (y : Scan). y.body.loops) g) outside;
      agree = λ x v. agree x (begin_below params params (omega arith) x (rw (ap (λ (y : Scan). y.body.scope) g) at v));
      top_is = ap (λ (y : ℕ). base + y) (sym (ap (λ (y : Scan). y.slots) g));
      rank = omega (arith, ap (λ (y : Scan). length y.known) g, there.rank);
      low_floor = floor;
      low_loops = loops;
      low_base = slots_low;
    }
