-- The machine and the rules in lockstep, tree by tree: between two counted steps each goes on quietly by itself, and the counted steps are the same, in the
-- same order, with the same values, bytes and counter. Assumes nothing.
use mathlib.Core.Path.{◌≡◌, refl, sym, ap, ◌∙◌}
use mathlib.Core.Bool.{Bool, true, false}
use mathlib.Core.List.{List, [], ◌∷◌, ◌++◌, append-nil}
use mathlib.Core.Option.{none, some}
use Prim.Native.Nat.{ℕ, zero, suc, ◌+◌, ◌-◌, ◌≤◌, ◌<◌}
use native.Mathlib.Nat.{zero-add}
use native.Mathlib.Omega.{arith}
use borrow.Author.Tests.{lt-ltb, le-ltb}
use lib.Dec.{ltb}
use lib.ListN.{length}
use Rattle.word.specs.Slots.{Slots, Scope, upd, fresh, hidden, fixed, begin}
use Rattle.word.proofs.Laws.{op_of_code}
use Rattle.word.proofs.Memory.{upd_same, upd_other}
use Rattle.tape.specs.Core.{CExpr, LIT, VAR, GET, NOT, BIN, CALL, CExprs, NONE, MORE, CStmt, SKIP, ◌⨾◌, DEF, SET, PUT, FOR, CFunc}
use Rattle.tape.specs.Instruction.{Instruction, Code, for as for_record, end}
use Rattle.tape.specs.Tape.{tape_e, tape_es, tape_s}
use Rattle.tape.specs.Entries.{Entry}
use Rattle.tape.specs.Rules.{World, Loop, Frame, Machine, at as machine, tick, stored, one, two, past, pass, again, ending, back, exec, step, turn_for, turn_end, turn_loops, turn, is_free, quiet as free}
use Rattle.tape.proofs.Meaning.{State, CFun, assign, cpasses, cvalue, cvalues, crun, cmeaning}
use Rattle.tape.proofs.Sound.{arguments, after_s, SoundE, SoundEs, SoundS, SoundF}
use Rattle.tape.proofs.Entering.{entry_of}
use Rattle.tape.proofs.Follows.{onto, grab_all, past_s, end_as_for}
use Rattle.rules.specs.Configurations.{Subst, Local, empty, bind, Term, val, var, body, nil, skip, for, Fval, vals, Configuration, at, load, loads, load_s, fval}
use Rattle.rules.specs.Reduction.{Deed, reads, calls, quiet, counts, Reduces, EXR-VAR, EXR-ARR-GET-VAL, EXR-UNOP-VAL, EXR-BINOP-VAL, EXR-SUBST-VAR, EXR-SUBST-NO-VAR, EXR-FN-CALL, EXR-SKIP-VAL, EXR-SEQ-SKIP, EXR-DEF-VAL, EXR-ASSIGN-VAL, EXR-ARR-ASSIGN-VAL, EXR-FOR, EXR-ADD-SUBST, EXR-FOR-BASE}
use Rattle.rules.specs.Correspondence.{with1, with2, taken, passing, renewing, deed}
use Rattle.rules.proofs.Agreeing.{Agree, Found, substituted, remembered, found, is_hidden, agree_def, agree_set, agree_out, agree_pass, agree_end, agree_begin}
use Rattle.rules.proofs.Around.{Around, AroundArgs, AroundStmt, round_get, round_not, round_left, round_right, round_args, round_first, round_rest, round_body, round_result, round_seq, round_def, round_set, round_index, round_value}

-- the operands that CALL takes are the arguments
takes : (vs s us : List ℕ) (j : ℕ) → taken (length vs + j) (onto vs s) us ≡ taken j s (vs ++ us)
unfolding taken onto
takes [] s us j = ap (λ (p : ℕ). taken p s us) (zero-add j)
takes (v ∷ vs) s us j =
    let q : suc (length vs) + j ≡ length vs + suc j = omega arith in
    ap (λ (p : ℕ). taken p (onto vs (v ∷ s)) us) q ∙ takes vs (v ∷ s) us (suc j)

takes_all : (p : ℕ) (vs s : List ℕ) → length vs ≡ p → taken p (onto vs s) [] ≡ vs
unfolding taken
takes_all p vs s q =
    let e : p ≡ length vs + 0 = omega arith in
    ap (λ (j : ℕ). taken j (onto vs s) []) e ∙ takes vs s [] 0 ∙ append-nil vs

module _ (lengths : List ℕ) (Δ : ℕ → Entry) (Λ : ℕ → Fval) where
  -- from one pair to a later one: a quiet reduction, a record that counts nothing, or one counted step of both
  pub data Lock : Machine → Configuration → Machine → Configuration → Type 0 where
    rest : {m : Machine} {c : Configuration} → Lock m c m c
    rule : {m m' : Machine} {w w₁ : World} {μ μ₁ : List Local} {e e₁ : Term} {c' : Configuration}
        → Reduces lengths Λ empty quiet w μ e w₁ μ₁ e₁ → Lock m (at w₁ μ₁ e₁) m' c' → Lock m (at w μ e) m' c'
    record_of : {m m' : Machine} {c c' : Configuration} → free m ≡ true → Lock (step lengths Δ m) c m' c' → Lock m c m' c'
    both : {i : Instruction} {k : Code} {s : List ℕ} {τ : Slots} {L : List Loop} {F : List Frame} {w w₁ : World} {μ μ₁ : List Local} {e e₁ : Term} {a : Deed}
        {m' : Machine} {c' : Configuration}
        → free (machine (i ∷ k) s τ L F w) ≡ false → deed lengths Δ i s τ L w ≡ counts a → Reduces lengths Λ empty (counts a) w μ e w₁ μ₁ e₁
        → Lock (step lengths Δ (machine (i ∷ k) s τ L F w)) (at w₁ μ₁ e₁) m' c' → Lock (machine (i ∷ k) s τ L F w) (at w μ e) m' c'

  then : {a b c : Machine} {x y z : Configuration} → Lock a x b y → Lock b y c z → Lock a x c z
  then rest q = q
  then (rule r p) q = rule r (then p q)
  then (record_of h p) q = record_of h (then p q)
  then (both f h r p) q = both f h r (then p q)

  from : {a b c : Machine} {x y : Configuration} → a ≡ b → Lock b x c y → Lock a x c y
  from {c} {x} {y} q p = rw q p

  -- a slot is read
  read : {i : Instruction} {k : Code} {s : List ℕ} {τ : Slots} {L : List Loop} {F : List Frame} {w : World} {x v : ℕ} {σ : Subst} {m : Local} (K : Around lengths Λ σ)
      {μ : List Local} {m' : Machine} {c' : Configuration} → Found v (σ x) (m x) → free (machine (i ∷ k) s τ L F w) ≡ false → deed lengths Δ i s τ L w ≡ counts (reads x v)
      → Lock (step lengths Δ (machine (i ∷ k) s τ L F w)) (at (tick w) (m ∷ μ) (K.plug (val v))) m' c'
      → Lock (machine (i ∷ k) s τ L F w) (at w (m ∷ μ) (K.plug (var x))) m' c'
  read K (substituted q) f h p = both f h (K.lift (EXR-SUBST-VAR q)) p
  read K (remembered q r) f h p = rule (K.lift (EXR-SUBST-NO-VAR q)) (both f h (K.lift (EXR-VAR r)) p)

  -- the functions below k, called from a frame
  pub record Serves (k : ℕ) (Φ : ℕ → CFun) : Type 0 where
    pub same : (f : ℕ) → f < k → (Δ f).params ≡ (Λ f).params
    pub serves : (f : ℕ) → f < k → (values : List ℕ) → length values ≡ (Δ f).params → {σ : Subst} (K : Around lengths Λ σ) (p : Frame) (F : List Frame) (w : World) (μ : List Local)
        → Lock (machine (Δ f).code [] (fresh values) [] (p ∷ F) w) (at w (empty ∷ μ) (K.plug (body (bind values) (Λ f).stmt (Λ f).result)))
        (machine p.code ((Φ f values w).0 ∷ p.operands) p.slots p.loops F (Φ f values w).1) (at (Φ f values w).1 μ (K.plug (val (Φ f values w).0)))

  -- how a statement ends
  record Ends (D : Scope) (S : AroundStmt lengths Λ) (μ : List Local) (m : Machine) (c : Configuration) (τ : Slots) (w : World) (m' : Machine) : Type 0 where
    subst : Subst
    local : Local
    agree : Agree D τ subst local
    lock : Lock m c m' (at w (local ∷ μ) (S.plug subst skip))

  after_lock : {D : Scope} {S : AroundStmt lengths Λ} {μ : List Local} {m₀ m m' : Machine} {c₀ c : Configuration} {τ : Slots} {w : World}
      → Lock m₀ c₀ m c → Ends D S μ m c τ w m' → Ends D S μ m₀ c₀ τ w m'
  after_lock p e = record { subst = e.subst; local = e.local; agree = e.agree; lock = then p e.lock }

  module _ (π : ℕ → ℕ) (params : (f : ℕ) → (Δ f).params ≡ π f) (k : ℕ) (Φ : ℕ → CFun) (𝓢 : Serves k Φ) where
    mutual
      unfolding cvalue arguments

      counted : (es : CExprs) (τ : Slots) (w : World) → length (cvalues lengths Φ es τ w).0 ≡ arguments es
      counted NONE τ w = refl
      counted (MORE e es) τ w = ap suc (counted es τ _)

    mutual
      unfolding cvalue tape_e step exec one two onto SoundE free turn is_free load vals deed with1 with2 round_get round_not round_left round_right round_args round_first round_rest

      e_lock : (e : CExpr) {D : Scope} {τ : Slots} {σ : Subst} {m : Local} → SoundE π k D e → Agree D τ σ m
          → (K : Around lengths Λ σ) (c : Code) (s : List ℕ) (L : List Loop) (F : List Frame) (w : World) (μ : List Local)
          → Lock (machine (tape_e e c) s τ L F w) (at w (m ∷ μ) (K.plug (load e)))
          (machine c ((cvalue lengths Φ e τ w).0 ∷ s) τ L F (cvalue lengths Φ e τ w).1) (at (cvalue lengths Φ e τ w).1 (m ∷ μ) (K.plug (val (cvalue lengths Φ e τ w).0)))
      e_lock (LIT n) h a K c s L F w μ = record_of refl rest
      e_lock (VAR x) h a K c s L F w μ = read K (found x h a) refl refl rest
      e_lock (GET y i) h a K c s L F w μ = then (e_lock i h a (round_get lengths Λ y K) _ s L F w μ) (both refl refl (K.lift EXR-ARR-GET-VAL) rest)
      e_lock (NOT e) h a K c s L F w μ = then (e_lock e h a (round_not lengths Λ K) _ s L F w μ) (both refl refl (K.lift EXR-UNOP-VAL) rest)
      e_lock (BIN o d e) {τ} h a K c s L F w μ =
          let u = (cvalue lengths Φ d τ w).0 in
          then (e_lock d h.0 a (round_left lengths Λ o (load e) K) _ s L F w μ)
          (then (e_lock e h.1 a (round_right lengths Λ o u K) _ _ L F _ μ) (both refl (rw op_of_code refl) (K.lift EXR-BINOP-VAL) (rw op_of_code rest)))
      e_lock (CALL f es) {τ} h a K c s L F w μ =
          let vs = (cvalues lengths Φ es τ w).0 in
          let n : length vs ≡ (Δ f).params = counted es τ w ∙ h.1 ∙ sym (params f) in
          let n₁ : length vs ≡ (Λ f).params = n ∙ 𝓢.same f h.0 in
          then (es_lock es h.2 a (round_args lengths Λ f K) _ s L F w μ)
          (both refl (ap (λ (us : List ℕ). counts (calls f us)) (takes_all (Δ f).params vs s n)) (K.lift (EXR-FN-CALL n₁))
          (from (grab_all (Δ f).params vs s _ n) (𝓢.serves f h.0 vs n K (record { code = c; operands = s; slots = τ; loops = L }) F _ _)))

      es_lock : (es : CExprs) {D : Scope} {τ : Slots} {σ : Subst} {m : Local} → SoundEs π k D es → Agree D τ σ m
          → (K : AroundArgs lengths Λ σ) (c : Code) (s : List ℕ) (L : List Loop) (F : List Frame) (w : World) (μ : List Local)
          → Lock (machine (tape_es es c) s τ L F w) (at w (m ∷ μ) (K.plug (loads es)))
          (machine c (onto (cvalues lengths Φ es τ w).0 s) τ L F (cvalues lengths Φ es τ w).1)
          (at (cvalues lengths Φ es τ w).1 (m ∷ μ) (K.plug (vals (cvalues lengths Φ es τ w).0 nil)))
      es_lock NONE h a K c s L F w μ = rest
      es_lock (MORE e es) {τ} h a K c s L F w μ =
          let u = (cvalue lengths Φ e τ w).0 in
          then (e_lock e h.0 a (round_first lengths Λ (loads es) K) _ s L F w μ) (es_lock es h.1 a (round_rest lengths Λ u K) c _ L F _ μ)

    -- a loop, from the test of pass i on: at its FOR, or at the END of the pass before
    spins : (x r : ℕ) (t : CStmt) (D : Scope) (S : AroundStmt lengths Λ) (B c : Code) (f : ℕ → State → State) (s : List ℕ) (L : List Loop) (F : List Frame) (μ : List Local)
        → D x ≡ hidden → SoundS π k (upd D x fixed) t
        → ((i : ℕ) (st : State) (l : Loop) (S : AroundStmt lengths Λ) (σ : Subst) (m : Local) → Agree (upd D x fixed) (upd st.slots x i) σ m
        → Ends (after_s (upd D x fixed) t) S μ (machine B s (upd st.slots x i) (l ∷ L) F (tick st.world)) (at (tick st.world) (m ∷ μ) (S.plug σ (load_s t)))
        (f i st).slots (f i st).world (machine (end ∷ c) s (f i st).slots (l ∷ L) F (f i st).world))
        → (n i : ℕ) (st : State) (σ : Subst) (m : Local) → r - i ≡ n → i ≤ r → Agree D st.slots (upd σ x none) m
        → (j : Instruction) (c₀ : Code) (L₀ : List Loop) → is_free (turn j L₀) ≡ is_free (turn_for (ltb i r)) → deed lengths Δ j s st.slots L₀ st.world ≡ passing (ltb i r) x i
        → exec lengths Δ j c₀ s st.slots L₀ F st.world ≡ pass (ltb i r) (record { slot = x; pass = i; to = r; body = B }) c s st.slots L F st.world
        → Ends D S μ (machine (j ∷ c₀) s st.slots L₀ F st.world) (at st.world (m ∷ μ) (S.plug σ (for x i r (load_s t))))
        (cpasses f n i st).slots (cpasses f n i st).world (machine c s (cpasses f n i st).slots L F (cpasses f n i st).world)
    unfolding cpasses pass again ending step exec free turn turn_for turn_loops is_free deed passing renewing round_seq
    spins x r t D S B c f s L F μ e g p zero i st σ m q l a j c₀ L₀ u d h =
        let b : ltb i r ≡ false = le-ltb i r (omega arith) in
        let o : i ≡ r = omega arith in
        record { subst = upd σ x none; local = m; agree = a; lock = rule (S.lift (EXR-FOR-BASE o)) (record_of (rw b at u) (from (rw b at h) rest)) }
    spins x r t D S B c f s L F μ e g p (suc n) i st σ m q l a j c₀ L₀ u d h =
        let o : i < r = omega arith in
        let b : ltb i r ≡ true = lt-ltb i r o in
        let S₁ = round_seq lengths Λ (for x (suc i) r (load_s t)) S in
        let y = p i st (record { slot = x; pass = i; to = r; body = B }) S₁ (upd (upd σ x none) x (some i)) m (agree_pass x i a) in
        after_lock
        (both (rw b at u) (rw b at d) (S.lift (EXR-FOR o))
        (from (rw b at h) (rule (S₁.lift (EXR-ADD-SUBST (upd_same σ x none))) (then y.lock (rule (S.lift EXR-SEQ-SKIP) rest)))))
        (spins x r t D S B c f s L F μ e g p n (suc i) (f i st) y.subst y.local (omega arith) (omega arith) (agree_end π k x t e g y.agree)
        end c _ (end_as_for (ltb (suc i) r) B) refl refl)

    s_lock : (t : CStmt) (D : Scope) → SoundS π k D t → (S : AroundStmt lengths Λ) (σ : Subst) (m : Local) (μ : List Local)
        → (c : Code) (s : List ℕ) (st : State) (L : List Loop) (F : List Frame) → Agree D st.slots σ m
        → Ends (after_s D t) S μ (machine (tape_s t c) s st.slots L F st.world) (at st.world (m ∷ μ) (S.plug σ (load_s t)))
        (crun lengths Φ t st).slots (crun lengths Φ t st).world (machine c s (crun lengths Φ t st).slots L F (crun lengths Φ t st).world)
    unfolding crun assign stored tape_s step exec one two past SoundS after_s load_s free turn is_free deed with1 with2 round_seq round_def round_set round_index round_value
    s_lock SKIP D g S σ m μ c s st L F a = record { subst = σ; local = m; agree = a; lock = rest }
    s_lock (t ⨾ u) D g S σ m μ c s st L F a =
        let p = s_lock t D g.0 (round_seq lengths Λ (load_s u) S) σ m μ (tape_s u c) s st L F a in
        after_lock (then p.lock (rule (S.lift EXR-SEQ-SKIP) rest))
        (s_lock u (after_s D t) g.1 S p.subst p.local μ c s (crun lengths Φ t st) L F p.agree)
    s_lock (DEF x e) D g S σ m μ c s st L F a =
        record {
          subst = σ;
          local = upd m x (some (cvalue lengths Φ e st.slots st.world).0);
          agree = agree_def x _ g.0 a;
          lock = then (e_lock e g.1 a (round_def lengths Λ σ x S) _ s L F st.world μ) (both refl refl (S.lift EXR-DEF-VAL) rest);
        }
    s_lock (SET x e) D g S σ m μ c s st L F a =
        record {
          subst = σ;
          local = upd m x (some (cvalue lengths Φ e st.slots st.world).0);
          agree = agree_set x _ g.0 a;
          lock = then (e_lock e g.1 a (round_set lengths Λ σ x S) _ s L F st.world μ) (both refl refl (S.lift EXR-ASSIGN-VAL) rest);
        }
    s_lock (PUT y i e) D g S σ m μ c s st L F a =
        let u = (cvalue lengths Φ i st.slots st.world).0 in
        record {
          subst = σ;
          local = m;
          agree = a;
          lock =
              then (e_lock i g.0 a (round_index lengths Λ σ y (load e) S) _ s L F st.world μ)
              (then (e_lock e g.1 a (round_value lengths Λ σ y u S) _ _ L F _ μ) (both refl refl (S.lift EXR-ARR-ASSIGN-VAL) rest));
        }
    s_lock (FOR x q r t) D g S σ m μ c s st L F a =
        let B : Code = tape_s t (end ∷ c) in
        let e = is_hidden (D x) g.1 in
        spins x r t D S B c _ s L F μ e g.2
        (λ i st₁ l₁ S₁ σ₁ m₁ b. s_lock t (upd D x fixed) g.2 S₁ σ₁ m₁ μ (end ∷ c) s (assign st₁.slots x i st₁.world) (l₁ ∷ L) F b)
        (r - q) q st σ m refl g.0 (agree_out x e a) (for_record x q r) B L refl refl
        (ap (λ (d : Code). pass (ltb q r) (record { slot = x; pass = q; to = r; body = B }) d s st.slots L F st.world) (past_s t 0 (end ∷ c)))

    -- a function, as the exposed one and from a frame
    pub body_lock : (f : CFunc) → SoundF π k f → (fs : List CFunc) (values : List ℕ) → length values ≡ f.params
        → {σ : Subst} (K : Around lengths Λ σ) (F : List Frame) (w : World) (μ : List Local)
        → Lock (machine (entry_of f fs).code [] (fresh values) [] F w) (at w (empty ∷ μ) (K.plug (body (bind values) (fval f).stmt (fval f).result)))
        (back F (cmeaning lengths Φ f values w).0 (crun lengths Φ f.body (record { slots = fresh values; world = w })).world)
        (at (cmeaning lengths Φ f values w).1 μ (K.plug (val (cmeaning lengths Φ f values w).0)))
    unfolding entry_of fval cmeaning step exec free turn is_free deed round_body round_result
    body_lock f h fs values n K F w μ =
        let S = round_body lengths Λ (var f.ret) K in
        let p = s_lock f.body (begin f.params) h.body S (bind values) empty μ _ [] (record { slots = fresh values; world = w }) [] F (agree_begin values f.params n) in
        then p.lock (read (round_result lengths Λ p.subst K) (found f.ret h.ret p.agree) refl refl (rule (K.lift EXR-SKIP-VAL) rest))

    pub serves_next : (f : CFunc) → SoundF π k f → (fs : List CFunc) → Δ k ≡ entry_of f fs → Λ k ≡ fval f → (g : ℕ) → g < suc k → Dec (g ≡ k)
        → (values : List ℕ) → length values ≡ (Δ g).params → {σ : Subst} (K : Around lengths Λ σ) (p : Frame) (F : List Frame) (w : World) (μ : List Local)
        → Lock (machine (Δ g).code [] (fresh values) [] (p ∷ F) w) (at w (empty ∷ μ) (K.plug (body (bind values) (Λ g).stmt (Λ g).result)))
        (machine p.code ((upd Φ k (cmeaning lengths Φ f) g values w).0 ∷ p.operands) p.slots p.loops F (upd Φ k (cmeaning lengths Φ f) g values w).1)
        (at (upd Φ k (cmeaning lengths Φ f) g values w).1 μ (K.plug (val (upd Φ k (cmeaning lengths Φ f) g values w).0)))
    unfolding back cmeaning entry_of
    serves_next f h fs q r g l (yes e) values n K p F w μ =
        let n₁ : length values ≡ f.params = n ∙ ap (λ (x : ℕ). (Δ x).params) e ∙ ap (λ (x : Entry). x.params) q in
        rw (e, q, r, upd_same Φ k _) (body_lock f h fs values n₁ K (p ∷ F) w μ)
    serves_next f h fs q r g l (no d) values n K p F w μ = rw (upd_other Φ k _ g d) (𝓢.serves g (omega arith) values n K p F w μ)

    pub same_next : (f : CFunc) (fs : List CFunc) → Δ k ≡ entry_of f fs → Λ k ≡ fval f → (g : ℕ) → g < suc k → Dec (g ≡ k) → (Δ g).params ≡ (Λ g).params
    unfolding entry_of fval
    same_next f fs q r g l (yes e) = rw (e, q, r) refl
    same_next f fs q r g l (no d) = 𝓢.same g (omega arith)
