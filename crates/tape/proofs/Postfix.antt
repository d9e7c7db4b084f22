-- Where the scan of a tape stands, told by trees: each record without a fault takes the trees read so far to the next ones. Assumes nothing.
use mathlib.Core.Path.{◌≡◌, sym, ap, ◌∙◌}
use mathlib.Core.Bool.{Bool, true, ◌&&◌, false≢true, and-eq-true_iff}
use mathlib.Core.List.{◌∷◌}
use Prim.Native.Nat.{ℕ, suc, ◌-◌, ◌≤◌, ◌<◌}
use native.Mathlib.Omega.{arith}
use borrow.Author.Tests.{eqb-true, leb-true, ltb-true}
use lib.Dec.{ltb, leb}
use lib.ListN.{length, get_or}
use Rattle.word.specs.Slots.{Seen, upd, defined, Scope}
use Rattle.word.specs.Code.{op_of}
use Rattle.word.specs.declared.Record.{Record}
use Rattle.word.proofs.Laws.{code_op}
use Rattle.word.proofs.Records.{same_true}
use Rattle.tape.specs.Instruction.{Instruction, Code, program, array, cfunc, lit, var, get, not, bin, call, def, set, put, for, end, ret, other, read, write}
use Rattle.tape.specs.Scan.{a_body, Body, Scan, in_body, next}
use Rattle.tape.specs.Faults.{due, more, takes, just, readable, settable, definable, asks}
use Rattle.tape.proofs.Places.{Clean}
use Rattle.tape.proofs.Cases.{read_program, read_array, read_cfunc}
use Rattle.tape.proofs.Asked.{Met, takes_iff, just_iff}
use Rattle.tape.proofs.Sound.{after_s}
use Rattle.tape.proofs.Knowing.{unknown, knows_steps}
use Rattle.tape.proofs.Waiting.{lit_pushed, var_pushed, get_pushed, not_pushed, bin_pushed, call_pushed, def_stated, set_stated, put_stated, none_waits}
use Rattle.tape.proofs.Half.{Onward, pushed, stated, opened, closed}
use Rattle.tape.proofs.Stands.{Inside, Stands, program_due, array_due, function_due, body_due, nothing_due, on_program, on_array, on_cfunc, on_ret}

ordered : (a b : ℕ) (c : Bool) → (ltb a b && c) ≡ true → (a < b) × (c ≡ true)
ordered a b c e = let (l, h) = (and-eq-true_iff (ltb a b) c).0 e in (ltb-true a b l, h)

-- ---- one more record of a body
module _ {whole rest : Code} (s : Scan) (at : ℕ) (d : s.due ≡ a_body) where
  onward : {i : Instruction} (b : Inside whole (i ∷ rest) s) {b₁ : Body} → Onward b.half i b₁ → Stands whole rest (in_body s b₁) (suc at)
  unfolding in_body
  onward b o =
      body_due d
      (record {
        from = b.from;
        done = b.done;
        half = o.half;
        is = b.is ∙ ap (cfunc s.params s.slots ∷◌) (sym (o.is rest));
        fewer = b.fewer;
        few_params = b.few_params;
        among = b.among;
        few_slots = b.few_slots;
      })

  -- the operands that wait: so many are there, and one more is room for
  module _ {i : Instruction} (b : Inside whole (i ∷ rest) s) where
    there : (n : ℕ) → takes n s ≡ true → (n ≤ length b.half.stack) × (suc (length b.half.stack - n) ≤ 128)
    there n e = rw b.half.operands at ((takes_iff n s).0 e)

    alone : (n : ℕ) → just n s ≡ true → length b.half.stack ≡ n
    alone n e = sym b.half.operands ∙ (just_iff n s).0 e

    visible : (P : Seen → Bool) (x : ℕ) → P (s.body.scope x) ≡ true → P (after_s b.half.begins b.half.body x) ≡ true
    visible P x e = rw b.half.scope at e

  on_body : (i : Instruction) → due a_body (write i).kind ≡ true → Met s i → Inside whole (i ∷ rest) s → Stands whole rest (next s at i) (suc at)
  unfolding next asks due write
  on_body (program p q) k m b = absurd (false≢true k)
  on_body (array n) k m b = absurd (false≢true k)
  on_body (cfunc p q) k m b = absurd (false≢true k)
  on_body (lit v) k m b = onward b (pushed b.half (lit_pushed v b.half.waits (there b 0 m.operands).1))
  on_body (var x) k m b =
      onward b
      (pushed b.half
      (var_pushed x b.half.waits (there b 0 m.operands).1 (ltb-true x s.slots m.range) (visible b readable x m.slot)))
  on_body (get a) k m b =
      onward b (pushed b.half (get_pushed a b.half.waits (there b 1 m.operands).0 (ltb-true a s.arrays m.range)))
  on_body not k m b = onward b (pushed b.half (not_pushed b.half.waits (there b 1 m.operands).0))
  on_body (bin o) k m b =
      let (lo, hi) = (and-eq-true_iff (leb 1 o) (leb o 13)).0 m.range in
      let few = leb-true o 13 hi in
      let e = code_op o (leb-true 1 o lo) (omega arith) in
      onward b (pushed b.half (rw e at (bin_pushed (op_of o) b.half.waits (there b 2 m.operands).0 (rw e few))))
  on_body (call f) k m b =
      let l = ltb-true f (length s.known) m.range in
      let params = b.done.knows.params f l in
      let (n, o) = there b (get_or s.known f unknown).params m.operands in
      rw (params, knows_steps b.done.knows f)
      (onward b (pushed b.half (call_pushed f b.half.waits (rw b.done.counted at l) (rw params at n) (rw params at o))))
  on_body (def x) k m b =
      let l = ltb-true x s.slots m.range in
      let p = def_stated x _ b.half.waits (alone b 1 m.operands) l (visible b definable x m.slot) in
      onward b (stated b.half p (ap (λ (D : Scope). upd D x defined) b.half.scope))
  on_body (set x) k m b =
      let l = ltb-true x s.slots m.range in
      let p = set_stated x _ b.half.waits (alone b 1 m.operands) l (visible b settable x m.slot) in
      onward b (stated b.half p b.half.scope)
  on_body (put a) k m b =
      let p = put_stated a _ b.half.waits (alone b 2 m.operands) (ltb-true a s.arrays m.range) in
      onward b (stated b.half p b.half.scope)
  on_body (for x q r) k m b =
      let (l, o) = ordered x s.slots (leb q r) m.range in
      let deep = ltb-true (length s.body.loops) 8 m.loops in
      onward b (opened b.half (none_waits b.half.waits (alone b 0 m.operands)) x q r l deep (leb-true q r o) m.slot)
  on_body end k m b =
      let deep = ltb-true 0 (length s.body.loops) m.loops in
      onward b (closed b.half (none_waits b.half.waits (alone b 0 m.operands)) deep)
  on_body (ret x) k m b =
      let flat = eqb-true (length s.body.loops) 0 m.loops in
      on_ret s at x b (ltb-true x s.slots m.range) flat (none_waits b.half.waits (alone b 0 m.operands)) m.slot
  on_body other k m b = absurd (false≢true k)

-- ---- one more record, wherever the scan stands
met : {s : Scan} {x : Record} → Clean s x → Met s (read x)
met c = record { range = c.range; loops = c.loops; operands = c.operands; slot = c.slot }

pub stands_next : {whole rest : Code} (s : Scan) (x : Record) (at : ℕ) → Clean s x → Stands whole (read x ∷ rest) s at
    → Stands whole rest (next s at (read x)) (suc at)
unfolding due more
stands_next s x at c (program_due d is z) =
    let e = read_program x (eqb-true x.kind 1 (rw d at c.kind)) in
    rw (z, e) (on_program s x.p x.q (rw e at (met c)) (rw e at is))
stands_next s x at c (array_due d ns h k l few is) =
    let e = read_array x (eqb-true x.kind 2 (rw d at c.kind)) in
    rw e (on_array s at x.p (rw e at (met c)) ns h k l few (rw e at is))
stands_next s x at c (function_due d done l) =
    let e = read_cfunc x (eqb-true x.kind 3 (rw d at c.kind)) in
    rw e (on_cfunc s at x.p x.q (rw e at (met c)) (rw e at done) l)
stands_next s x at c (body_due d b) =
    let k = rw d at c.kind in
    on_body s at d (read x) (ap (λ (y : Record). due a_body y.kind) (sym (same_true x (write (read x)) c.unused)) ∙ k) (met c) b
stands_next s x at c (nothing_due d done l) = absurd (false≢true (rw d at c.due_now))
