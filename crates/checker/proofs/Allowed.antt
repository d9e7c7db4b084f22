-- What a record that has no fault allows the code to do: take operands, look a function up, store into a row. Assumes nothing.
use Prim.Native.Nat.{ℕ, suc, ◌+◌, ◌-◌, ◌≤◌, ◌<◌}
use native.Mathlib.Omega.{arith}
use mathlib.Core.Path.{◌≡◌, refl, sym, ap, ◌∙◌}
use mathlib.Core.Logic.{◌⊎◌}
use Rattle.std.proofs.lemmas.Bool.{and_parts}
use borrow.Author.Tests.{leb-true, ltb-true}
use lib.ListN.{length, get_or}
use lib.Dec.{leb, ltb}
use Rattle.word.specs.declared.Record.{Record}
use Rattle.tape.specs.Instruction.{Instruction, lit, var, get, not, bin, call, read}
use Rattle.tape.specs.Scan.{Known, Scan, known_at, leaves, in_body}
use Rattle.tape.specs.Faults.{takes, asks, deep}
use Rattle.checker.specs.declared.standing.Standing.{Standing}
use Rattle.checker.specs.declared.standing.Functions.{Functions}
use Rattle.checker.specs.declared.standing.Bodies.{Bodies}
use Rattle.checker.specs.Standing.{due_of, known_of, scan_of}
use Rattle.checker.specs.Ready.{Room, Within, Ready}
use Rattle.tape.specs.Held.{hold, held}
use Rattle.checker.proofs.Stores.{call_stands}
use Rattle.tape.proofs.Cases.{read_lit, read_var, read_get, read_not, read_bin, read_call, read_def, read_for, read_end}
use Rattle.checker.proofs.Clear.{Met, met}
use Rattle.checker.proofs.Bounds.{room, kinds}
use Rattle.checker.proofs.Rows.{known_length, known_at_lem, opens_length}

module _ (s : Standing) (f : Functions) (b : Bodies) where
  pub deep_is : deep (scan_of s f b) ≡ s.deep
  unfolding scan_of
  deep_is = opens_length s.params b s.deep

  pub known_is : length (scan_of s f b).known ≡ s.known
  unfolding scan_of
  known_is = known_length f s.known

  pub room_is : Within (scan_of s f b) → Room (due_of s.due) s.known s.functions
  unfolding scan_of
  room_is w = rw (known_length f s.known) at w.room

  pub called : (i : ℕ) → i < s.known → known_at (scan_of s f b) i ≡ known_of f i
  unfolding scan_of
  called i l = known_at_lem f s.known i l

  -- CALL: the parameters and steps that are kept of it
  pub call_known : (i : ℕ) → i < s.known
      → held (in_body (scan_of s f b) (leaves (scan_of s f b).body (known_at (scan_of s f b) i).params (suc (known_at (scan_of s f b) i).steps)))
      ≡ held (in_body (scan_of s f b) (leaves (scan_of s f b).body (get_or f.params i 0) (hold (get_or f.steps i 0 + 1))))
  call_known i l =
      let z = scan_of s f b in
      ap (λ (g : Known). held (in_body z (leaves z.body g.params (suc g.steps)))) (called i l) ∙ sym (call_stands s f b (get_or f.params i 0) (get_or f.steps i 0))

module _ (s : Standing) (f : Functions) (b : Bodies) (x : Record) (r : Ready (scan_of s f b) x) where
  abbrev z : Scan
  z = scan_of s f b

  m : Met z x
  m = met z x r.clear

  pub deep_below : s.deep < 9
  deep_below = omega (arith, deep_is s f b, r.within.loops)

  pub known_within : s.known ≤ 16
  known_within = omega (arith, known_is s f b, r.within.known)

  pub takes_of : (i : Instruction) (n : ℕ) → read x ≡ i → (asks z i).operands ≡ takes n z → (n ≤ s.operands) × (s.operands ≤ 128)
  unfolding takes scan_of
  takes_of i n e t =
      let both = sym t ∙ ap (λ (j : Instruction). (asks z j).operands) (sym e) ∙ m.operands in
      (leb-true n s.operands ((and_parts (leb n s.operands) (leb (suc (s.operands - n)) 128) both).0), r.within.operands)

  pub lit_of : x.kind ≡ 10 → (0 ≤ s.operands) × (s.operands ≤ 128)
  unfolding asks
  lit_of k = takes_of (lit x.p) 0 (read_lit x k) refl

  pub var_of : x.kind ≡ 11 → (0 ≤ s.operands) × (s.operands ≤ 128)
  unfolding asks
  var_of k = takes_of (var x.p) 0 (read_var x k) refl

  pub get_of : x.kind ≡ 12 → (1 ≤ s.operands) × (s.operands ≤ 128)
  unfolding asks
  get_of k = takes_of (get x.p) 1 (read_get x k) refl

  pub not_of : x.kind ≡ 13 → (1 ≤ s.operands) × (s.operands ≤ 128)
  unfolding asks
  not_of k = takes_of not 1 (read_not x k) refl

  pub bin_of : x.kind ≡ 14 → (2 ≤ s.operands) × (s.operands ≤ 128)
  unfolding asks
  bin_of k = takes_of (bin x.p) 2 (read_bin x k) refl

  pub call_of : x.kind ≡ 15 → x.p < s.known
  unfolding asks
  call_of k =
      let below : x.p < length z.known = ltb-true _ _ (ap (λ (j : Instruction). (asks z j).range) (sym (read_call x k)) ∙ m.range) in
      omega (arith, known_is s f b)

  -- CALL: the function that it names is known
  called_is : (k : x.kind ≡ 15) → known_at z x.p ≡ known_of f x.p
  called_is k = called s f b x.p (call_of k)

  pub call_within : x.kind ≡ 15 → x.p < 16
  call_within k = omega (arith, call_of k, known_within)

  pub call_takes : x.kind ≡ 15 → (get_or f.params x.p 0 ≤ s.operands) × (s.operands ≤ 128)
  unfolding asks
  call_takes k = takes_of (call x.p) (get_or f.params x.p 0) (read_call x k) (ap (λ (g : Known). takes g.params z) (called_is k))

  pub def_of : x.kind ≡ 16 → x.p < 64
  unfolding asks scan_of
  def_of k =
      let below : x.p < s.slots = ltb-true _ _ (ap (λ (j : Instruction). (asks z j).range) (sym (read_def x k)) ∙ m.range) in
      let most : s.slots ≤ 64 = r.within.slots in
      omega arith

  pub for_of : x.kind ≡ 19 → (s.deep < 8) × (x.q ≤ x.r)
  unfolding asks
  for_of k =
      let loops : deep z < 8 = ltb-true _ _ (ap (λ (j : Instruction). (asks z j).loops) (sym (read_for x k)) ∙ m.loops) in
      let range = ap (λ (j : Instruction). (asks z j).range) (sym (read_for x k)) ∙ m.range in
      (omega (arith, deep_is s f b), leb-true x.q x.r ((and_parts (ltb x.p z.slots) (leb x.q x.r) range).1))

  pub end_of : x.kind ≡ 20 → 0 < s.deep
  unfolding asks
  end_of k =
      let loops : 0 < deep z = ltb-true _ _ (ap (λ (j : Instruction). (asks z j).loops) (sym (read_end x k)) ∙ m.loops) in
      omega (arith, deep_is s f b)

  -- a kind of no class but the last is RET's
  pub kinds_of : ((1 ≤ x.kind) × (x.kind ≤ 3)) ⊎ ((10 ≤ x.kind) × (x.kind ≤ 21))
  kinds_of = kinds z x m

  pub ret_of : x.kind ≡ 21 → s.known < 16
  ret_of k =
      let below = room z x r.within m (λ e. omega arith) in
      omega (arith, known_is s f b, r.within.functions)
