-- What the code stores at a record is what the scan becomes: DEF, FOR, END and RET on the rows; SET, PUT and CALL on the numbers. Assumes nothing.
use Prim.Native.Nat.{ℕ, suc, ◌+◌, ◌-◌, ◌*◌, ◌<◌}
use native.Mathlib.Omega.{arith}
use native.Mathlib.Numerals.{add-one}
use mathlib.Core.Path.{◌≡◌, refl, ap, ◌∙◌}
use mathlib.Core.Bool.{cond}
use mathlib.Core.List.{[], ◌∷◌, ◌++◌}
use lib.ListN.{length, get_or, set}
use lib.Seq.{get_or-set_same}
use lib.Dec.{eqb}
use Rattle.word.specs.Slots.{upd, defined}
use Rattle.tape.specs.Instruction.{for, end, ret, read}
use Rattle.tape.proofs.Cases.{read_set, read_put}
use Rattle.word.specs.declared.Record.{Record}
use Rattle.tape.specs.Scan.{Scan, nothing, a_function, leaves, states, opens, close_by, closes, in_body, returns, next}
use Rattle.checker.specs.declared.standing.Due.{Due}
use Rattle.checker.specs.declared.standing.Standing.{Standing}
use Rattle.tape.specs.Held.{hold, hold_known, held}
use Rattle.checker.specs.declared.standing.Functions.{Functions}
use Rattle.checker.specs.declared.standing.Bodies.{Bodies}
use Rattle.checker.specs.Standing.{insert, due_of, known_to, scope_at, opens_at, scan_of}
use Rattle.tape.proofs.Counts.{hold_hold, hold_add_right}
use Rattle.checker.proofs.Held.{known_more}
use Rattle.checker.proofs.Rows.{known_frame, known_length, opens_frame, scope_frame, store_past, def_body, for_body, scope_def, scope_for}

-- a standing with another innermost body
abbrev pub inner : Standing → ℕ → ℕ → ℕ → Standing
inner s operands steps deep = record s { operands = operands; steps = steps; deep = deep }

module _ (s : Standing) (f : Functions) (b : Bodies) where
  -- DEF
  pub def_stands : (x : ℕ) → s.deep < length b.defs → x < 64
      → let z = scan_of s f (def_body b s.deep x) in
      in_body z (states z.body z.body.scope) ≡ in_body (scan_of s f b) (states (scan_of s f b).body (upd (scan_of s f b).body.scope x defined))
  unfolding in_body states scan_of
  def_stands x l h =
      let d = s.deep in
      let loops = opens_frame s.params (def_body b d x) b d (λ i l. refl) (store_past b.defs d (insert (get_or b.defs d 0) x) d (omega arith)) (λ i l. refl) (λ i l. refl) in
      rw (scope_def s.params b d x h l, loops)

  -- FOR
  module _ (ls : length b.slots ≡ 9) (lp : length b.passes ≡ 9) (lc : length b.counts ≡ 9) (ld : length b.defs ≡ 9) (deep : s.deep < 8) (x q r : ℕ) where
    abbrev b' : Bodies
    b' = for_body b s.deep x (r - q) s.steps

    for_loops : opens_at s.params b' (suc s.deep) ≡ record { passes = r - q; scope = scope_at s.params b s.deep; steps = s.steps } ∷ opens_at s.params b s.deep
    unfolding opens_at
    for_loops =
        let d = s.deep in
        let n = suc d in
        let own = get_or-set_same b.passes n (r - q) 0 (omega arith) in
        let waits = get_or-set_same b.counts d s.steps 0 (omega arith) in
        let scope = scope_frame s.params b' b d (store_past b.slots n x n (omega arith)) (store_past b.defs n 0 n (omega arith)) in
        let rest = opens_frame s.params b' b d (store_past b.slots n x d (omega arith)) (store_past b.defs n 0 d (omega arith)) (store_past b.passes n (r - q) n (omega arith)) (store_past b.counts d s.steps d (omega arith)) in
        rw (own, waits, scope, rest)

    pub for_stands : (at : ℕ) → scan_of (inner s 0 0 (suc s.deep)) f b' ≡ next (scan_of s f b) at (for x q r)
    unfolding next in_body opens scan_of
    for_stands at = rw (for_loops, scope_for s.params b s.deep x (r - q) s.steps (omega arith) (omega arith))

-- SET and PUT
pub set_next : (z : Scan) (at : ℕ) (x : Record) → x.kind ≡ 17 → next z at (read x) ≡ in_body z (states z.body z.body.scope)
unfolding next
set_next z at x k = rw (read_set x k) refl

pub put_next : (z : Scan) (at : ℕ) (x : Record) → x.kind ≡ 18 → next z at (read x) ≡ in_body z (states z.body z.body.scope)
unfolding next
put_next z at x k = rw (read_put x k) refl

-- CALL: the steps of the function that is called, and its own
pub call_stands : (s : Standing) (f : Functions) (b : Bodies) (n k : ℕ)
    → held (in_body (scan_of s f b) (leaves (scan_of s f b).body n (hold (k + 1)))) ≡ held (in_body (scan_of s f b) (leaves (scan_of s f b).body n (suc k)))
unfolding in_body leaves scan_of held
call_stands s f b n k = rw (hold_add_right s.steps (k + 1), add-one k)

-- END
end_at : (s : Standing) (f : Functions) (b : Bodies) (d at : ℕ) → s.deep ≡ suc d
    → held (scan_of (inner s 0 (hold (get_or b.counts d 0 + get_or b.passes (suc d) 0 * suc s.steps)) d) f b) ≡ held (next (scan_of s f b) at end)
unfolding next in_body closes close_by scan_of held opens_at
end_at s f b d at e = rw (e, hold_hold)

pub end_stands : (s : Standing) (f : Functions) (b : Bodies) (steps at : ℕ) → 0 < s.deep
    → steps ≡ hold (get_or b.counts (s.deep - 1) 0 + get_or b.passes s.deep 0 * suc s.steps)
    → held (scan_of (inner s 0 steps (s.deep - 1)) f b) ≡ held (next (scan_of s f b) at end)
end_stands s f b steps at some h =
    let e : s.deep ≡ suc (s.deep - 1) = omega arith in
    let counted = ap (λ (n : ℕ). hold (get_or b.counts (s.deep - 1) 0 + get_or b.passes n 0 * suc s.steps)) e in
    rw (h ∙ counted) (end_at s f b (s.deep - 1) at e)

-- RET
module _ (s : Standing) (f : Functions) (lp : length f.params ≡ 16) (ls : length f.steps ≡ 16) (la : length f.places ≡ 16) (known : s.known < 16) (count : ℕ) where
  abbrev f' : Functions
  f' = record { params = set f.params s.known s.params; steps = set f.steps s.known count; places = set f.places s.known s.place }

  known_one_more : known_to f' (suc s.known) ≡ known_to f s.known ++ (record { params = s.params; steps = count; place = s.place } ∷ [])
  unfolding known_to
  known_one_more =
      let n = s.known in
      let before = known_frame f' f n (λ i l. rw (store_past f.params n s.params n (omega arith) i l, store_past f.steps n count n (omega arith) i l, store_past f.places n s.place n (omega arith) i l)) in
      rw (before, get_or-set_same f.params n s.params 0 (omega arith), get_or-set_same f.steps n count 0 (omega arith), get_or-set_same f.places n s.place 0 (omega arith))

  pub ret_stands : (d : Due) (b : Bodies) (at x : ℕ) → count ≡ hold (s.steps + 1) → due_of d ≡ cond (eqb (suc s.known) s.functions) nothing a_function
      → held (scan_of (record s { due = d; known = suc s.known }) f' b) ≡ held (next (scan_of s f b) at (ret x))
  unfolding next returns scan_of held
  ret_stands d b at x e h =
      rw (h, known_one_more, known_length f s.known, known_more (known_to f s.known), known_more (known_to f s.known))
      (unfold hold_known in rw (e, add-one s.steps, hold_hold (suc s.steps)))
