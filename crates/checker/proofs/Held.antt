-- A check's answer depends on no more than the held counts: two scans that are alike once their counts are held have the same faults, go on
-- alike, and end alike. Assumes nothing.
use Prim.Native.Nat.{ℕ, zero, suc, ◌+◌, ◌-◌}
use native.Mathlib.Omega.{arith}
use mathlib.Core.Path.{◌≡◌, refl, sym, ap, ap₂, ◌∙◌, subst}
use mathlib.Core.Bool.{Bool, true, false}
use mathlib.Core.List.{List, [], ◌∷◌, ◌++◌, map}
use borrow.Author.Tests.{leb-true}
use lib.ListN.{length, get_or, length-map, get_or-map}
use Rattle.word.specs.declared.Record.{Record}
use Rattle.tape.specs.Instruction.{Instruction, program, array, cfunc, lit, var, get, not, bin, call, def, set, put, for, end, ret, other, read}
use Rattle.tape.specs.Steps.{most}
use Rattle.tape.specs.Scan.{Known, Open, Scan, known_at, leaves, states, opens, close_by, closes, in_body, arrayed, enters, returns, next}
use Rattle.tape.specs.Faults.{more, takes, just, asks, fault}
use Rattle.tape.specs.Check.{Checked, unless_over, within, at_end, judge, scan}
use Rattle.std.specs.Prelude.{Ok}
use Rattle.checker.specs.Ready.{Within}
use Rattle.tape.specs.Held.{hold, hold_known, hold_open, held}
use Rattle.tape.proofs.Counts.{hold_within, hold_add, hold_add_right, hold_hold, hold_suc, hold_loop, hold_leb}

abbrev nobody : Known
nobody = record { params = 0; steps = 0; place = 0 }

-- ---- held twice is held once
known_twice : (ks : List Known) → map hold_known (map hold_known ks) ≡ map hold_known ks
unfolding hold_known
known_twice [] = refl
known_twice (k ∷ ks) = rw (hold_hold, known_twice ks)

open_twice : (os : List Open) → map hold_open (map hold_open os) ≡ map hold_open os
unfolding hold_open
open_twice [] = refl
open_twice (o ∷ os) = rw (hold_hold, open_twice os)

pub known_more : (ks : List Known) (k : Known) → map hold_known (ks ++ (k ∷ [])) ≡ map hold_known ks ++ (hold_known k ∷ [])
known_more [] k = refl
known_more (h ∷ ks) k = rw (known_more ks k)

-- a function that is known, held
known_held : (ks : List Known) (f : ℕ) → get_or (map hold_known ks) f nobody ≡ hold_known (get_or ks f nobody)
unfolding hold_known hold
known_held ks f = get_or-map hold_known ks f nobody

-- ---- faults
asks_held : (s : Scan) (i : Instruction) → asks (held s) i ≡ asks s i
unfolding asks held takes just
asks_held s (program p q) = refl
asks_held s (array n) = refl
asks_held s (cfunc p q) = refl
asks_held s (lit v) = refl
asks_held s (var x) = refl
asks_held s (get a) = refl
asks_held s not = refl
asks_held s (bin o) = refl
asks_held s (call f) = unfold hold_known in rw (length-map s.known hold_known, known_held s.known f)
asks_held s (def x) = refl
asks_held s (set x) = refl
asks_held s (put a) = refl
asks_held s (for x q r) = rw (length-map s.body.loops hold_open)
asks_held s end = rw (length-map s.body.loops hold_open)
asks_held s (ret x) = rw (length-map s.body.loops hold_open)
asks_held s other = refl

pub fault_held : (s : Scan) (x : Record) → fault (held s) x ≡ fault s x
unfolding fault held
fault_held s x = rw (asks_held s (read x))

-- ---- the state after a record
hold_call : (a b : ℕ) → hold (hold a + suc (hold b)) ≡ hold (a + suc b)
hold_call a b =
    let back : a + suc (hold b) ≡ suc a + hold b = omega arith in
    let on : suc a + b ≡ a + suc b = omega arith in
    hold_add a (suc (hold b)) ∙ ap hold back ∙ hold_add_right (suc a) b ∙ ap hold on

held_held : (s : Scan) → held (held s) ≡ held s
unfolding held
held_held s = rw (known_twice s.known, hold_hold s.body.steps, open_twice s.body.loops)

arrayed_held : (s : Scan) (at : ℕ) → held (arrayed (held s) at) ≡ held (arrayed s at)
unfolding held arrayed
arrayed_held s at = rw (known_twice s.known, hold_hold s.body.steps, open_twice s.body.loops)

leaves_held : (s : Scan) (n m c d : ℕ) → n ≡ m → hold (hold s.body.steps + c) ≡ hold (s.body.steps + d)
    → held (in_body (held s) (leaves (held s).body n c)) ≡ held (in_body s (leaves s.body m d))
unfolding held in_body leaves
leaves_held s n m c d e h = rw (e, h, known_twice s.known, open_twice s.body.loops)

call_held : (s : Scan) (f : ℕ) → let z = held s in
    held (in_body z (leaves z.body (known_at z f).params (suc (known_at z f).steps)))
    ≡ held (in_body s (leaves s.body (known_at s f).params (suc (known_at s f).steps)))
call_held s f =
    leaves_held s (known_at (held s) f).params (known_at s f).params (suc (known_at (held s) f).steps) (suc (known_at s f).steps)
    (unfold held hold_known in ap (λ (k : Known). k.params) (known_held s.known f))
    (unfold held hold_known in ap (λ (k : Known). hold (hold s.body.steps + suc k.steps)) (known_held s.known f) ∙ hold_call s.body.steps (known_at s f).steps)

closes_held : (s : Scan) (os : List Open) → held (in_body (held s) (close_by (held s).body (map hold_open os))) ≡ held (in_body s (close_by s.body os))
unfolding held in_body close_by hold_open
closes_held s [] = rw (known_twice s.known, hold_hold s.body.steps, open_twice s.body.loops)
closes_held s (o ∷ os) = rw (known_twice s.known, hold_loop o.steps o.passes s.body.steps, open_twice os)

returns_held : (s : Scan) → held (returns (held s)) ≡ held (returns s)
unfolding held returns
returns_held s =
    rw (length-map s.known hold_known, known_more (map hold_known s.known), known_more s.known, known_twice s.known, hold_hold s.body.steps, open_twice s.body.loops)
    (unfold hold_known in rw (hold_suc s.body.steps))

next_held : (s : Scan) (at : ℕ) (i : Instruction) → held (next (held s) at i) ≡ held (next s at i)
unfolding next
next_held s at (program p q) = refl
next_held s at (array n) = arrayed_held s at
next_held s at (cfunc p q) = unfold held enters in rw (known_twice s.known)
next_held s at (lit v) = leaves_held s 0 0 0 0 refl (hold_add s.body.steps 0)
next_held s at (var x) = leaves_held s 0 0 1 1 refl (hold_add s.body.steps 1)
next_held s at (get a) = leaves_held s 1 1 1 1 refl (hold_add s.body.steps 1)
next_held s at not = leaves_held s 1 1 1 1 refl (hold_add s.body.steps 1)
next_held s at (bin o) = leaves_held s 2 2 1 1 refl (hold_add s.body.steps 1)
next_held s at (call f) = call_held s f
next_held s at (def x) = unfold held in_body states in rw (known_twice s.known, hold_suc s.body.steps, open_twice s.body.loops)
next_held s at (set x) = unfold held in_body states in rw (known_twice s.known, hold_suc s.body.steps, open_twice s.body.loops)
next_held s at (put a) = unfold held in_body states in rw (known_twice s.known, hold_suc s.body.steps, open_twice s.body.loops)
next_held s at (for x q r) = unfold held in_body opens in rw (known_twice s.known, open_twice s.body.loops) (unfold hold_open in rw (hold_hold s.body.steps))
next_held s at end = unfold closes held in closes_held s s.body.loops
next_held s at (ret x) = returns_held s
next_held s at other = held_held s

-- ---- the end
unless_over_held : (b : Bool) (place : ℕ) (r t : Checked) → (b ≡ true → r ≡ t) → unless_over b place r ≡ unless_over b place t
unfolding unless_over
unless_over_held true place r t h = h refl
unless_over_held false place r t h = refl

known_within_held : (ks : List Known) (r : Checked) → within (map hold_known ks) r ≡ within ks r
unfolding within hold_known
known_within_held [] r = refl
known_within_held (k ∷ ks) r = rw (hold_leb k.steps, known_within_held ks r)

-- a function's steps are over the limit, or they are what is held
answer_held : (ks : List Known) (f : ℕ) → within ks (Ok (hold (get_or ks f nobody).steps)) ≡ within ks (Ok (get_or ks f nobody).steps)
unfolding within
answer_held [] f = unfold hold in refl
answer_held (k ∷ ks) zero = unless_over_held _ _ _ _ (λ e. ap (λ (n : ℕ). within ks (Ok n)) (hold_within k.steps (leb-true k.steps most e)))
answer_held (k ∷ ks) (suc f) = unless_over_held _ _ _ _ (λ e. answer_held ks f)

end_held : (b : Bool) (s : Scan) (at : ℕ) → at_end b (held s) at ≡ at_end b s at
unfolding at_end held
end_held true s at = refl
end_held false s at =
    known_within_held s.known _
    ∙ ap (λ (n : ℕ). within s.known (Ok (get_or (map hold_known s.known) (n - 1) nobody).steps)) (length-map s.known hold_known)
    ∙ ap (λ (k : Known). within s.known (Ok k.steps)) (known_held s.known (length s.known - 1))
    ∙ (unfold hold_known in answer_held s.known (length s.known - 1))

-- ---- the whole scan
ends : (s z : Scan) (at : ℕ) → held s ≡ held z → at_end (more s.due) (held s) at ≡ at_end (more z.due) (held z) at
unfolding held
ends s z at e = ap (λ (y : Scan). at_end (more y.due) y at) e

pub scan_held : (xs : List Record) (s z : Scan) (at : ℕ) → held s ≡ held z → scan s at xs ≡ scan z at xs
unfolding scan
scan_held [] s z at e = sym (end_held (more s.due) s at) ∙ ends s z at e ∙ end_held (more z.due) z at
scan_held (x ∷ xs) s z at e =
    let alike : held (next s at (read x)) ≡ held (next z at (read x)) =
    sym (next_held s at (read x)) ∙ ap (λ (y : Scan). held (next y at (read x))) e ∙ next_held z at (read x) in
    let faults : fault s x ≡ fault z x = sym (fault_held s x) ∙ ap (λ (y : Scan). fault y x) e ∙ fault_held z x in
    ap₂ (λ (n : ℕ) (r : Checked). judge n at r) faults (scan_held xs _ _ (at + 1) alike)

-- ---- the bounds
held_within : (s : Scan) → Within s → Within (held s)
unfolding held
held_within s w =
    record { functions = w.functions; known = rw (length-map s.known hold_known) w.known; room = rw (length-map s.known hold_known) w.room; slots = w.slots; operands = w.operands; loops = rw (length-map s.body.loops hold_open) w.loops }

within_held : (s : Scan) → Within (held s) → Within s
unfolding held
within_held s w =
    record { functions = w.functions; known = rw (length-map s.known hold_known) at w.known; room = rw (length-map s.known hold_known) at w.room; slots = w.slots; operands = w.operands; loops = rw (length-map s.body.loops hold_open) at w.loops }

pub alike_within : (s z : Scan) → held s ≡ held z → Within z → Within s
alike_within s z e w = within_held s (subst Within (sym e) (held_within z w))
