-- The rules follow the meaning: over the code of a sound core program, whose calls go to lower functions with as many arguments as these have
-- parameters, they do what the tree means, in the steps of its text, and are done with the program's value. Assumes nothing.
use mathlib.Core.Path.{◌≡◌, refl, sym, ap, ◌∙◌}
use mathlib.Core.Bool.{Bool, true, false}
use mathlib.Core.List.{List, [], ◌∷◌, ◌++◌, append-nil}
use Prim.Native.Nat.{ℕ, zero, suc, ◌+◌, ◌-◌, ◌<◌}
use native.Mathlib.Nat.{not-suc-le-zero, zero-add, add-zero}
use native.Mathlib.Omega.{arith}
use native.Mathlib.Decide.{ℕ_discrete}
use borrow.Author.Tests.{lt-ltb, le-ltb}
use lib.Dec.{ltb}
use lib.ListN.{length, get_or}
use Rattle.word.specs.Slots.{Slots, Scope, upd, fresh, fixed, begin}
use Rattle.word.proofs.Laws.{op_of_code}
use Rattle.word.proofs.Memory.{upd_same, upd_other}
use Rattle.tape.specs.Core.{CExpr, LIT, VAR, GET, NOT, BIN, CALL, CExprs, NONE, MORE, CStmt, SKIP, ◌⨾◌, DEF, SET, PUT, FOR, CFunc, CProgram}
use Rattle.tape.specs.Instruction.{Instruction, Code, for, end}
use Rattle.tape.specs.Tape.{tape_e, tape_es, tape_s, instructions}
use Rattle.tape.specs.Steps.{steps_e, steps_es, steps_s, steps_exposed}
use Rattle.tape.specs.Entries.{Entry, entries_of, entry_at, exposed}
use Rattle.tape.specs.Rules.{World, Loop, Frame, Machine, at, halted, tick, stored, one, two, grab, past, pass, again, ending, back, exec, step, turn_for, turn_end, turn_loops, turn, is_free, quiet}
use Rattle.tape.proofs.Meaning.{State, CFun, assign, cpasses, cvalue, cvalues, crun, cmeaning, cexposed, cnothing, cprogram}
use Rattle.tape.proofs.Sound.{arguments, after_s, SoundE, SoundEs, SoundS, SoundF, SoundFrom, the_last, one_more, params_at, Sound}
use Rattle.tape.proofs.Costs.{value_cost, values_cost, run_cost, program_cost}
use Rattle.tape.proofs.Settling.{counter}
use Rattle.tape.proofs.Running.{Runs, here, quietly, counting, then, at_record, at_end, runs_exactly}
use Rattle.tape.proofs.Entering.{entry_of, entries_fs, nowhere, tape_entries, tape_count, tape_params}

-- ---- operands
-- values pushed one after another
unfoldable pub onto : List ℕ → List ℕ → List ℕ
onto [] s = s
onto (v ∷ vs) s = onto vs (v ∷ s)

grabs : (vs s us : List ℕ) (j : ℕ) (g : List ℕ → List ℕ → Machine) → grab (length vs + j) (onto vs s) us g ≡ grab j s (vs ++ us) g
unfolding grab onto
grabs [] s us j g = ap (λ (p : ℕ). grab p s us g) (zero-add j)
grabs (v ∷ vs) s us j g =
    let q : suc (length vs) + j ≡ length vs + suc j = omega arith in
    ap (λ (p : ℕ). grab p (onto vs (v ∷ s)) us g) q ∙ grabs vs (v ∷ s) us (suc j) g

pub grab_all : (p : ℕ) (vs s : List ℕ) (g : List ℕ → List ℕ → Machine) → length vs ≡ p → grab p (onto vs s) [] g ≡ g vs s
unfolding grab
grab_all p vs s g q =
    let e : p ≡ length vs + 0 = omega arith in
    ap (λ (j : ℕ). grab j (onto vs s) [] g) e ∙ grabs vs s [] 0 g ∙ ap (λ (us : List ℕ). g us s) (append-nil vs)

-- ---- loops
mutual
  unfolding past tape_e

  past_e : (e : CExpr) (d : ℕ) (c : Code) → past d (tape_e e c) ≡ past d c
  past_e (LIT v) d c = refl
  past_e (VAR x) d c = refl
  past_e (GET a i) d c = past_e i d _
  past_e (NOT e) d c = past_e e d _
  past_e (BIN o l r) d c = past_e l d _ ∙ past_e r d _
  past_e (CALL f es) d c = past_es es d _

  past_es : (es : CExprs) (d : ℕ) (c : Code) → past d (tape_es es c) ≡ past d c
  past_es NONE d c = refl
  past_es (MORE e es) d c = past_e e d _ ∙ past_es es d c

pub past_s : (s : CStmt) (d : ℕ) (c : Code) → past d (tape_s s c) ≡ past d c
unfolding past tape_s
past_s SKIP d c = refl
past_s (s ⨾ t) d c = past_s s d _ ∙ past_s t d c
past_s (DEF x e) d c = past_e e d _
past_s (SET x e) d c = past_e e d _
past_s (PUT a i e) d c = past_e i d _ ∙ past_e e d _
past_s (FOR x q r s) d c = past_s s (suc d) (end ∷ c)

-- an END counts where a FOR would
pub end_as_for : (b : Bool) (body : Code) → is_free (turn_end b body) ≡ is_free (turn_for b)
unfolding is_free turn_end turn_for
end_as_for true body = refl
end_as_for false body = refl

module _ (lengths : List ℕ) (Δ : ℕ → Entry) where
  -- some records further
  pub record Reaches (m m₁ : Machine) : Type 0 where
    pub count : ℕ
    pub runs : Runs lengths Δ m count m₁

  stay : {m : Machine} → Reaches m m
  stay = record { count = 0; runs = here }

  on : {a b c : Machine} → Reaches a b → Reaches b c → Reaches a c
  on p q = record { count = p.count + q.count; runs = then lengths Δ p.runs q.runs }

  from : {a b c : Machine} → a ≡ b → Reaches b c → Reaches a c
  from {c} q p = rw q p

  free : {m m₁ : Machine} → quiet m ≡ true → Reaches (step lengths Δ m) m₁ → Reaches m m₁
  free h p = record { count = p.count; runs = quietly h p.runs }

  counted : {i : Instruction} {c : Code} {s : List ℕ} {τ : Slots} {L : List Loop} {F : List Frame} {w : World} {m₁ : Machine}
      → quiet (at (i ∷ c) s τ L F w) ≡ false → Reaches (step lengths Δ (at (i ∷ c) s τ L F w)) m₁ → Reaches (at (i ∷ c) s τ L F w) m₁
  counted h p = record { count = suc p.count; runs = counting h p.runs }

  -- the functions below k, called from a frame
  pub record Serves (k : ℕ) (Φ : ℕ → CFun) : Type 0 where
    pub serves : (f : ℕ) → f < k → (values : List ℕ) (p : Frame) (F : List Frame) (w : World)
        → Reaches (at (Δ f).code [] (fresh values) [] (p ∷ F) w) (at p.code ((Φ f values w).0 ∷ p.operands) p.slots p.loops F (Φ f values w).1)

  module _ (π : ℕ → ℕ) (params : (f : ℕ) → (Δ f).params ≡ π f) (k : ℕ) (Φ : ℕ → CFun) (𝓢 : Serves k Φ) where
    mutual
      unfolding cvalue arguments

      counts : (es : CExprs) (τ : Slots) (w : World) → length (cvalues lengths Φ es τ w).0 ≡ arguments es
      counts NONE τ w = refl
      counts (MORE e es) τ w = ap suc (counts es τ _)

    mutual
      unfolding cvalue tape_e step exec one two onto SoundE quiet turn is_free

      e_follows : (e : CExpr) (D : Scope) → SoundE π k D e → (c : Code) (s : List ℕ) (τ : Slots) (L : List Loop) (F : List Frame) (w : World)
          → Reaches (at (tape_e e c) s τ L F w) (at c ((cvalue lengths Φ e τ w).0 ∷ s) τ L F (cvalue lengths Φ e τ w).1)
      e_follows (LIT v) D h c s τ L F w = free refl stay
      e_follows (VAR x) D h c s τ L F w = counted refl stay
      e_follows (GET a i) D h c s τ L F w = on (e_follows i D h _ s τ L F w) (counted refl stay)
      e_follows (NOT e) D h c s τ L F w = on (e_follows e D h _ s τ L F w) (counted refl stay)
      e_follows (BIN o l r) D h c s τ L F w =
          on (e_follows l D h.0 _ s τ L F w) (on (e_follows r D h.1 _ _ τ L F _) (counted refl (rw op_of_code stay)))
      e_follows (CALL f es) D h c s τ L F w =
          on (es_follows es D h.2 _ s τ L F w)
          (counted refl
          (from (grab_all (Δ f).params (cvalues lengths Φ es τ w).0 s _ (counts es τ w ∙ h.1 ∙ sym (params f)))
          (𝓢.serves f h.0 (cvalues lengths Φ es τ w).0 (record { code = c; operands = s; slots = τ; loops = L }) F _)))

      es_follows : (es : CExprs) (D : Scope) → SoundEs π k D es → (c : Code) (s : List ℕ) (τ : Slots) (L : List Loop) (F : List Frame) (w : World)
          → Reaches (at (tape_es es c) s τ L F w) (at c (onto (cvalues lengths Φ es τ w).0 s) τ L F (cvalues lengths Φ es τ w).1)
      es_follows NONE D h c s τ L F w = stay
      es_follows (MORE e es) D h c s τ L F w = on (e_follows e D h.0 _ s τ L F w) (es_follows es D h.1 c _ τ L F _)

    -- passes, from the record on that tests whether pass i begins: the FOR, or the END of the pass before
    spins : (x r : ℕ) (body c : Code) (f : ℕ → State → State) (s : List ℕ) (L : List Loop) (F : List Frame)
        → ((i : ℕ) (st : State) (l : Loop)
        → Reaches (at body s (upd st.slots x i) (l ∷ L) F (tick st.world)) (at (end ∷ c) s (f i st).slots (l ∷ L) F (f i st).world))
        → (n i : ℕ) (st : State) → r - i ≡ n → (j : Instruction) (c₀ : Code) (L₀ : List Loop) → is_free (turn j L₀) ≡ is_free (turn_for (ltb i r))
        → exec lengths Δ j c₀ s st.slots L₀ F st.world
        ≡ pass (ltb i r) (record { slot = x; pass = i; to = r; body = body }) c s st.slots L F st.world
        → Reaches (at (j ∷ c₀) s st.slots L₀ F st.world) (at c s (cpasses f n i st).slots L F (cpasses f n i st).world)
    unfolding cpasses pass again ending step exec quiet turn turn_for turn_loops is_free
    spins x r body c f s L F p zero i st q j c₀ L₀ t e =
        let b = le-ltb i r (omega arith) in
        free (t ∙ ap (λ (o : Bool). is_free (turn_for o)) b) (from (rw b at e) stay)
    spins x r body c f s L F p (suc n) i st q j c₀ L₀ t e =
        let b = lt-ltb i r (omega arith) in
        counted (t ∙ ap (λ (o : Bool). is_free (turn_for o)) b)
        (from (rw b at e) (on (p i st _) (spins x r body c f s L F p n (suc i) (f i st) (omega arith) end c _ (end_as_for (ltb (suc i) r) body) refl)))

    s_follows : (t : CStmt) (D : Scope) → SoundS π k D t → (c : Code) (s : List ℕ) (st : State) (L : List Loop) (F : List Frame)
        → Reaches (at (tape_s t c) s st.slots L F st.world) (at c s (crun lengths Φ t st).slots L F (crun lengths Φ t st).world)
    unfolding crun assign stored tape_s step exec one two past quiet turn is_free SoundS
    s_follows SKIP D h c s st L F = stay
    s_follows (t ⨾ u) D h c s st L F = on (s_follows t D h.0 _ s st L F) (s_follows u (after_s D t) h.1 c s (crun lengths Φ t st) L F)
    s_follows (DEF x e) D h c s st L F = on (e_follows e D h.1 _ s st.slots L F st.world) (counted refl stay)
    s_follows (SET x e) D h c s st L F = on (e_follows e D h.1 _ s st.slots L F st.world) (counted refl stay)
    s_follows (PUT a i e) D h c s st L F =
        on (e_follows i D h.0 _ s st.slots L F st.world) (on (e_follows e D h.1 _ _ st.slots L F _) (counted refl stay))
    s_follows (FOR x q r t) D h c s st L F =
        let body : Code = tape_s t (end ∷ c) in
        spins x r body c _ s L F (λ i st₁ l. s_follows t (upd D x fixed) h.2 (end ∷ c) s (assign st₁.slots x i st₁.world) (l ∷ L) F)
        (r - q) q st refl (for x q r) body L refl
        (ap (λ (d : Code). pass (ltb q r) (record { slot = x; pass = q; to = r; body = body }) d s st.slots L F st.world) (past_s t 0 (end ∷ c)))

    -- a function, as the exposed one and from a frame
    body_follows : (f : CFunc) → SoundF π k f → (fs : List CFunc) (values : List ℕ) (F : List Frame) (w : World)
        → Reaches (at (entry_of f fs).code [] (fresh values) [] F w)
        (back F (cmeaning lengths Φ f values w).0 (crun lengths Φ f.body (record { slots = fresh values; world = w })).world)
    unfolding entry_of cmeaning step exec quiet turn is_free
    body_follows f h fs values F w =
        on (s_follows f.body (begin f.params) h.body _ [] (record { slots = fresh values; world = w }) [] F) (counted refl stay)

    serves_next : (f : CFunc) → SoundF π k f → (fs : List CFunc) → Δ k ≡ entry_of f fs → (g : ℕ) → g < suc k → Dec (g ≡ k)
        → (values : List ℕ) (p : Frame) (F : List Frame) (w : World)
        → Reaches (at (Δ g).code [] (fresh values) [] (p ∷ F) w)
        (at p.code ((upd Φ k (cmeaning lengths Φ f) g values w).0 ∷ p.operands) p.slots p.loops F (upd Φ k (cmeaning lengths Φ f) g values w).1)
    unfolding back cmeaning
    serves_next f h fs q g l (yes e) values p F w = rw (e, q, upd_same Φ k _) (body_follows f h fs values (p ∷ F) w)
    serves_next f h fs q g l (no d) values p F w = rw (upd_other Φ k _ g d) (𝓢.serves g (omega arith) values p F w)

    -- the same, with the steps counted, where function f takes κ f
    module _ (κ : ℕ → ℕ) (h : (f : ℕ) (values : List ℕ) (w : World) → (Φ f values w).1.steps ≡ w.steps + κ f) where
      pub value_runs : (e : CExpr) (D : Scope) → SoundE π k D e → (c : Code) (s : List ℕ) (τ : Slots) (L : List Loop) (F : List Frame) (w : World)
          → Runs lengths Δ (at (tape_e e c) s τ L F w) (steps_e κ e) (at c ((cvalue lengths Φ e τ w).0 ∷ s) τ L F (cvalue lengths Φ e τ w).1)
      unfolding counter
      value_runs e D q c s τ L F w =
          runs_exactly lengths Δ (e_follows e D q c s τ L F w).runs at_record (steps_e κ e) (value_cost lengths κ Φ h e τ w)

      pub values_runs : (es : CExprs) (D : Scope) → SoundEs π k D es → (c : Code) (s : List ℕ) (τ : Slots) (L : List Loop) (F : List Frame) (w : World)
          → Runs lengths Δ (at (tape_es es c) s τ L F w) (steps_es κ es) (at c (onto (cvalues lengths Φ es τ w).0 s) τ L F (cvalues lengths Φ es τ w).1)
      unfolding counter
      values_runs es D q c s τ L F w =
          runs_exactly lengths Δ (es_follows es D q c s τ L F w).runs at_record (steps_es κ es) (values_cost lengths κ Φ h es τ w)

      pub run_runs : (t : CStmt) (D : Scope) → SoundS π k D t → (c : Code) (s : List ℕ) (st : State) (L : List Loop) (F : List Frame)
          → Runs lengths Δ (at (tape_s t c) s st.slots L F st.world) (steps_s κ t) (at c s (crun lengths Φ t st).slots L F (crun lengths Φ t st).world)
      unfolding counter
      run_runs t D q c s st L F =
          runs_exactly lengths Δ (s_follows t D q c s st L F).runs at_record (steps_s κ t) (run_cost lengths κ Φ h t st)

-- the functions from the k-th on, of which j is the last
from_follows : (lengths : List ℕ) (Δ : ℕ → Entry) (π : ℕ → ℕ) → ((f : ℕ) → (Δ f).params ≡ π f) → {k : ℕ} (Φ : ℕ → CFun) → Serves lengths Δ k Φ
    → {fs : List CFunc} → SoundFrom π k fs
    → ((i : ℕ) → Δ (k + i) ≡ get_or (entries_fs fs) i nowhere) → (j : ℕ) → suc j ≡ k + length fs → (values : List ℕ) (w : World)
    → Reaches lengths Δ (at (Δ j).code [] (fresh values) [] [] w) (halted (cexposed lengths Φ k fs values w).0 (cexposed lengths Φ k fs values w).1)
unfolding cexposed back cmeaning entries_fs
from_follows lengths Δ π params Φ 𝓢 (the_last {k} {f} h) q j e values w =
    let i : j ≡ k + 0 = omega arith in
    rw (i, q 0) (body_follows lengths Δ π params k Φ 𝓢 f h [] values [] w)
from_follows lengths Δ π params Φ 𝓢 (one_more {k} {f} {g} {fs} h r) q j e values w =
    from_follows lengths Δ π params (upd Φ k (cmeaning lengths Φ f))
    (record { serves = λ i l. serves_next lengths Δ π params k Φ 𝓢 f h (g ∷ fs) (ap Δ (sym (add-zero k)) ∙ q 0) i l (ℕ_discrete i k) })
    r (λ i. ap Δ (next k i) ∙ q (suc i)) j (omega arith) values w
  where
    next : (a b : ℕ) → suc a + b ≡ a + suc b
    next a b = omega arith

pub sound_some : {π : ℕ → ℕ} {k : ℕ} {fs : List CFunc} → SoundFrom π k fs → 0 < length fs
sound_some (the_last h) = omega arith
sound_some (one_more h r) = omega arith

-- the tape of a sound program, from its exposed function on: done with what the program means, after the steps of its text
pub follows : (p : CProgram) → Sound p → (values : List ℕ) (w : World)
    → Runs p.arrays (entry_at (instructions p)) (at (exposed (instructions p)).code [] (fresh values) [] [] w) (steps_exposed p)
    (halted (cprogram p values w).0 (cprogram p values w).1)
unfolding cprogram counter
follows p h values w =
    let l = sound_some h in
    let n = tape_count p in
    let j : ℕ = length (entries_of (instructions p)) - 1 in
    let none : Serves p.arrays Δ 0 cnothing = record { serves = λ f b. absurd (not-suc-le-zero b) } in
    let r = from_follows p.arrays Δ (params_at p.funcs) (tape_params p) cnothing none h entry j (omega arith) values w in
    runs_exactly p.arrays Δ r.runs at_end (steps_exposed p) (program_cost p values w)
  where
    Δ : ℕ → Entry
    Δ = entry_at (instructions p)

    entry : (i : ℕ) → Δ (0 + i) ≡ get_or (entries_fs p.funcs) i nowhere
    entry i = ap Δ (zero-add i) ∙ ap (λ (es : List Entry). get_or es i nowhere) (tape_entries p)
