-- Where the run does not go on, its answer is that of the rules. Over an accepted tape. Assumes nothing.
use mathlib.Core.Path.{◌≡◌, refl, sym, ap, ◌∙◌, subst}
use mathlib.Core.Bool.{Bool, true, false, false≢true}
use mathlib.Core.List.{List, ◌∷◌}
use Prim.Native.Nat.{ℕ, suc, ◌-◌, ◌≤◌, ◌<◌, ◌^◌}
use native.Mathlib.Omega.{arith}
use borrow.Author.Tests.{ltb-true, lt-ltb, le-ltb}
use lib.Dec.{ltb, eqb}
use lib.ListN.{length, get_or, drop, length-drop}
use Rattle.word.specs.Slots.{Slots, Scope}
use Rattle.word.specs.Records.{records, record_at, same}
use Rattle.tape.specs.Instruction.{Code, end, read, write, code_of}
use Rattle.tape.specs.Scan.{Known, Open}
use Rattle.tape.specs.Faults.{asks}
use Rattle.tape.specs.Entries.{entry_at}
use Rattle.tape.specs.Rules.{World, Loop, Frame, Machine, at, turn_for, turn_end, turn_loops, turn, is_free, quiet, stands, place_by, place}
use Rattle.tape.proofs.Cases.{by_kind, read_end}
use Rattle.tape.proofs.Reading.{code_from, code_length}
use Rattle.tape.proofs.Places.{Passed}
use Rattle.tape.proofs.Positions.{other_kind}
use Rattle.tape.proofs.Settling.{stands_here, stands_halted}
use Rattle.machine.specs.Flat.{Flat, sizes, pick, places_of, goes_on, answer_at, Ending, Ready, Looping, Stored}
use Rattle.machine.specs.Run.{Result, after, result_of}
use Rattle.machine.specs.declared.Ran.TheVariants.{Stopped}
use Rattle.machine.proofs.Relation.{Stands, running, finished}
use Rattle.machine.proofs.Moving.{Sized, asked_at}
use Rattle.machine.proofs.KeepsValues.{Running}
use Rattle.machine.proofs.KeepsEnds.{Innermost, innermost}
use Rattle.machine.proofs.Keeps.{body_kind, looping, ready}
use Rattle.machine.proofs.Going.{Along, rests, quiet_is}
use Rattle.std.specs.Prelude.{Ok}

-- a record that counts, and begins no further pass, counts where it stands
here_by : (b : Bool) (all : ℕ) (c : Code) → place_by all (turn_for b) c ≡ all - length c
unfolding turn_for place_by
here_by true all c = refl
here_by false all c = refl

-- a further pass counts at the FOR
pass_by : (b : Bool) (all : ℕ) (body c : Code) → is_free (turn_end b body) ≡ false → place_by all (turn_end b body) c ≡ all - suc (length body)
unfolding turn_end place_by is_free
pass_by true all body c h = refl
pass_by false all body c h = absurd (false≢true (sym h))

module _ (t : List ℕ) (m : ℕ) (a : Passed t m) (funcs : List ℕ) (table : (f : ℕ) → get_or funcs f 0 ≡ get_or (places_of 0 (code_of t)) f 0) (s : Flat) (b : Sized s) where
  abbrev present : ℕ
  present = pick (eqb (record_at t s.regs.at).kind 20) (get_or s.fors (s.regs.loops - 1) 0) s.regs.at

  module _ {values : List ℕ} {τ : Slots} {L : List Loop} {F : List Frame} {w : World} (r : Running t s values τ L F w) where
    here_is : records t - length (drop s.regs.at (code_of t)) ≡ s.regs.at
    here_is = let l = r.on.on_tape in omega (arith, length-drop s.regs.at (code_of t), code_length t)

    pub place_is : is_free (turn (read (record_at t s.regs.at)) L) ≡ false
        → place_by (records t) (turn (read (record_at t s.regs.at)) L) (drop s.regs.at (code_of t)) ≡ present
    unfolding turn place_by pick asks turn_loops
    place_is =
        let x = record_at t s.regs.at in
        let c = drop s.regs.at (code_of t) in
        let k = body_kind t m a funcs s b table r in
        let f = a.faultless s.regs.at r.on.on_tape in
        by_kind (λ j. read x ≡ j → same x (write j) ≡ true → is_free (turn j L) ≡ false → place_by (records t) (turn j L) c ≡ present) x
        (record {
          on_program = λ e q u h. rw e here_is;
          on_array = λ e q u h. rw e here_is;
          on_cfunc = λ e q u h. rw e here_is;
          on_lit = λ e q u h. rw e here_is;
          on_var = λ e q u h. rw e here_is;
          on_get = λ e q u h. rw e here_is;
          on_not = λ e q u h. rw e here_is;
          on_bin = λ e q u h. rw e here_is;
          on_call = λ e q u h. rw e here_is;
          on_def = λ e q u h. rw e here_is;
          on_set = λ e q u h. rw e here_is;
          on_put = λ e q u h. rw e here_is;
          on_for = λ e q u h. rw e (here_by (ltb x.q x.r) (records t) c ∙ here_is);
          on_end = λ e q u h. rw e (at_for c (innermost r.on.loops (ltb-true 0 _ (asked_at t m a _ end r.on.on_tape q).loops)) h);
          on_ret = λ e q u h. rw e here_is;
          on_other = λ q u h. absurd (let z = other_kind x u in omega arith);
        })
        refl f.unused
      where
        at_for : {D : Scope} {os : List Open} {low d : ℕ} {known : List Known} {slots : ℕ} (c : Code) → Innermost t s.fors s.passes known slots low d D os L
            → is_free (turn_loops L) ≡ false → place_by (records t) (turn_loops L) c ≡ get_or s.fors (d - 1) 0
        at_for c n h =
            let e = n.loops_are in
            let l = n.opened.there in
            ap (λ (k : List Loop). place_by (records t) (turn_loops k) c) e
            ∙ pass_by (ltb (suc n.l.pass) n.l.to) (records t) n.l.body c (sym (ap (λ (k : List Loop). is_free (turn_loops k)) e) ∙ h)
            ∙ omega (arith, ap (λ (k : Code). length k) n.opened.body, length-drop (suc n.f) (code_of t), code_length t, n.for_is)

module _ (t : List ℕ) (m : ℕ) (a : Passed t m) (funcs arguments memory : List ℕ) (limit : ℕ) (table : (f : ℕ) → get_or funcs f 0 ≡ get_or (places_of 0 (code_of t)) f 0) (s : Flat)
    (p : Along t m a funcs arguments memory limit table s) where
  -- ---- room
  pub prepared : (starts : List ℕ) (bytes : ℕ) → limit < 2 ^ 32 → ((n : ℕ) → n < length (sizes t) → Stored t starts bytes n) → s.regs.at < records t
      → Ready t starts funcs s.regs s.fors bytes
  prepared starts bytes l st h = by p.stands_for
    where
      by : {M : Machine} → Stands t s M → Ready t starts funcs s.regs s.fors bytes
      by (running floor low o u y z) =
          ready t m a funcs s p.sized table (record { floor = floor; low = low; on = o; under = u; bytes = y; steps = z }) starts bytes (omega (arith, p.few)) st
      by (finished e d q v y z) = absurd (omega arith)

  pub ends : s.regs.at < records t → read (record_at t s.regs.at) ≡ end → Looping t s.fors s.regs
  ends h e = by p.stands_for
    where
      by : {M : Machine} → Stands t s M → Looping t s.fors s.regs
      by (running floor low o u y z) = looping t m a funcs s p.sized table (record { floor = floor; low = low; on = o; under = u; bytes = y; steps = z }) e
      by (finished d k q v y z) = absurd (omega arith)

  pub ending : limit < 2 ^ 32 → Ending t s.fors s.regs
  ending l =
      record {
        few = omega (arith, p.few);
        size = a.few;
        looping = λ h k. ends h (read_end (record_at t s.regs.at) k);
        value = by p.stands_for;
      }
    where
      by : {M : Machine} → Stands t s M → records t ≤ s.regs.at → (1 ≤ s.regs.operands) × (s.regs.operands ≤ 2048)
      by (running floor low o u y z) h = absurd (let k = o.on_tape in omega arith)
      by (finished e d q v y z) h = (d, q)

  -- ---- the answer
  pub answered : goes_on t s.fors s.passes s.regs limit ≡ false
      → ◌≡◌ {A = Result} (record { answer = Ok (answer_at t s.fors s.operands s.regs); memory = s.memory }) (result_of (code_of t) (after (code_of t) arguments memory limit))
  unfolding answer_at result_of pick place quiet
  answered g = by p.stands_for p.rest
    where
      Answers : Machine → Type 0
      Answers M = ◌≡◌ {A = Result} (record { answer = Ok (answer_at t s.fors s.operands s.regs); memory = s.memory }) (result_of (code_of t) M)

      by : {M : Machine} → Stands t s M → stands (sizes t) (entry_at (code_of t)) (limit - s.regs.steps) M ≡ after (code_of t) arguments memory limit
          → Answers (after (code_of t) arguments memory limit)
      by (finished {v} {w} d k q u y z) e =
          subst Answers (sym (stands_halted (sizes t) (entry_at (code_of t)) (limit - s.regs.steps) v w) ∙ e)
          (rw (le-ltb s.regs.at (records t) (omega arith), u, y, z) refl)
      by {M} (running {values} {τ} {L} {F} {w} floor low o u y z) e =
          let i = s.regs.at in
          let r = rests t s.fors s.passes s.regs limit g o.on_tape in
          let q : quiet M ≡ false = quiet_is t m a funcs arguments memory limit table s p.sized o.on_tape (running floor low o u y z) ∙ r.1 in
          let n : limit - s.regs.steps ≡ 0 = let l = r.0 in omega arith in
          let x = ap (λ (k : ℕ). stands (sizes t) (entry_at (code_of t)) k M) (sym n) in
          let f = sym (ap quiet (ap (λ (c : Code). at c values τ L F w) (code_from t i o.on_tape))) ∙ q in
          let k = place_is t m a funcs table s p.sized (record { floor = floor; low = low; on = o; under = u; bytes = y; steps = z }) f in
          let d = code_from t i o.on_tape in
          let j = read (record_at t i) in
          let there : place (length (code_of t)) (drop i (code_of t)) L ≡ place_by (records t) (turn j L) (drop i (code_of t)) =
          ap (λ (c : Code). place (length (code_of t)) c L) d ∙ ap (λ (n : ℕ). place_by n (turn j L) (j ∷ drop (suc i) (code_of t))) (code_length t)
          ∙ ap (λ (c : Code). place_by (records t) (turn j L) c) (sym d) in
          subst Answers (sym (stands_here (sizes t) (entry_at (code_of t)) M q) ∙ x ∙ e)
          (rw (lt-ltb i (records t) o.on_tape, y, z, sym k) (ap (λ (n : ℕ). record { answer = Ok (Stopped w.steps n); memory = w.bytes }) (sym there)))
