-- The steps that the meaning counts do not depend on what it is run on: they are those of Steps, computed from the text. No assumption on the
-- program is needed: a call of a function that is not there means 0 in no step, and Steps counts none for it. Assumes nothing.
use mathlib.Core.Path.{◌≡◌, refl, sym, ap, ◌∙◌}
use mathlib.Core.List.{List, [], ◌∷◌, ◌++◌}
use mathlib.Core.Logic.{◌≢◌}
use Prim.Native.Nat.{ℕ, zero, suc, ◌+◌, ◌-◌, ◌*◌}
use native.Mathlib.Omega.{arith}
use native.Mathlib.Decide.{ℕ_discrete}
use lib.ListN.{length, get_or, length-append}
use lib.Seq.{get_or-append_seam}
use Rattle.word.specs.Slots.{Slots, upd, fresh}
use Rattle.word.proofs.Memory.{upd_same, upd_other}
use Rattle.tape.specs.Core.{CExpr, LIT, VAR, GET, NOT, BIN, CALL, CExprs, NONE, MORE, CStmt, SKIP, ◌⨾◌, DEF, SET, PUT, FOR, CFunc, CProgram}
use Rattle.tape.specs.Steps.{steps_e, steps_es, steps_s, steps_f, steps_from, steps_of, steps_exposed}
use Rattle.tape.specs.Rules.{World, tick, stored}
use Rattle.tape.proofs.Meaning.{State, CFun, assign, cpasses, cvalue, cvalues, crun, cmeaning, cexposed, cnothing, cprogram}

passes_cost : (f : ℕ → State → State) (z : ℕ) → ((i : ℕ) (st : State) → (f i st).world.steps ≡ st.world.steps + z) → (n i : ℕ) (st : State)
    → (cpasses f n i st).world.steps ≡ st.world.steps + n * z
unfolding cpasses
passes_cost f z h zero i st = omega arith
passes_cost f z h (suc n) i st = omega (arith, h i st, passes_cost f z h n (suc i) (f i st))

-- where function f, once it is entered, takes κ f steps
module _ (lengths : List ℕ) (κ : ℕ → ℕ) (Φ : ℕ → CFun) (h : (f : ℕ) (arguments : List ℕ) (w : World) → (Φ f arguments w).1.steps ≡ w.steps + κ f) where
  mutual
    unfolding cvalue tick steps_e

    pub value_cost : (e : CExpr) (τ : Slots) (w : World) → (cvalue lengths Φ e τ w).1.steps ≡ w.steps + steps_e κ e
    value_cost (LIT v) τ w = omega arith
    value_cost (VAR x) τ w = omega arith
    value_cost (GET a i) τ w = omega (arith, value_cost i τ w)
    value_cost (NOT e) τ w = omega (arith, value_cost e τ w)
    value_cost (BIN o l r) τ w = omega (arith, value_cost l τ w, value_cost r τ (cvalue lengths Φ l τ w).1)
    value_cost (CALL f es) τ w =
        omega (arith, values_cost es τ w, h f (cvalues lengths Φ es τ w).0 (tick (cvalues lengths Φ es τ w).1))

    pub values_cost : (es : CExprs) (τ : Slots) (w : World) → (cvalues lengths Φ es τ w).1.steps ≡ w.steps + steps_es κ es
    values_cost NONE τ w = omega arith
    values_cost (MORE e es) τ w = omega (arith, value_cost e τ w, values_cost es τ (cvalue lengths Φ e τ w).1)

  pub run_cost : (s : CStmt) (st : State) → (crun lengths Φ s st).world.steps ≡ st.world.steps + steps_s κ s
  unfolding crun assign stored tick steps_s
  run_cost SKIP st = omega arith
  run_cost (s ⨾ t) st = omega (arith, run_cost s st, run_cost t (crun lengths Φ s st))
  run_cost (DEF x e) st = omega (arith, value_cost e st.slots st.world)
  run_cost (SET x e) st = omega (arith, value_cost e st.slots st.world)
  run_cost (PUT a i e) st =
      omega (arith, value_cost i st.slots st.world, value_cost e st.slots (cvalue lengths Φ i st.slots st.world).1)
  run_cost (FOR x q r s) st =
      passes_cost _ (suc (steps_s κ s)) (λ i st₁. omega (arith, run_cost s (assign st₁.slots x i st₁.world))) (r - q) q st

  pub meaning_cost : (f : CFunc) (arguments : List ℕ) (w : World) → (cmeaning lengths Φ f arguments w).1.steps ≡ w.steps + steps_f κ f
  unfolding cmeaning tick steps_f
  meaning_cost f arguments w = omega (arith, run_cost f.body (record { slots = fresh arguments; world = w }))

-- ---- the functions' steps are kept as a list, the meanings as a map
-- one more, at the end of the list: the last one, those before, and none after it
pub known_last : (known : List ℕ) (n g : ℕ) → g ≡ length known → get_or (known ++ n ∷ []) g 0 ≡ n
known_last known n g e = rw e (get_or-append_seam known n [] 0)

pub known_other : (known : List ℕ) (n g : ℕ) → g ≢ length known → get_or (known ++ n ∷ []) g 0 ≡ get_or known g 0
known_other [] n zero d = absurd (d refl)
known_other [] n (suc g) d = refl
known_other (m ∷ known) n zero d = refl
known_other (m ∷ known) n (suc g) d = known_other known n g (λ e. d (ap suc e))

-- the meanings in Φ take the steps in `known`
pub record Costs (known : List ℕ) (Φ : ℕ → CFun) : Type 0 where
  pub costs : (f : ℕ) (arguments : List ℕ) (w : World) → (Φ f arguments w).1.steps ≡ w.steps + get_or known f 0

module _ (lengths known : List ℕ) (Φ : ℕ → CFun) (𝓒 : Costs known Φ) (f : CFunc) where
  next_cost : (k : ℕ) → length known ≡ k → (g : ℕ) → Dec (g ≡ k) → (arguments : List ℕ) (w : World)
      → (upd Φ k (cmeaning lengths Φ f) g arguments w).1.steps ≡ w.steps + get_or (known ++ steps_f (λ i. get_or known i 0) f ∷ []) g 0
  next_cost k l g (yes e) arguments w =
      rw (known_last known _ g (e ∙ sym l), e, upd_same Φ k _) (meaning_cost lengths (λ i. get_or known i 0) Φ 𝓒.costs f arguments w)
  next_cost k l g (no d) arguments w = rw (known_other known _ g (λ e. d (e ∙ l)), upd_other Φ k _ g d) (𝓒.costs g arguments w)

  pub costs_next : (k : ℕ) → length known ≡ k → Costs (known ++ steps_f (λ i. get_or known i 0) f ∷ []) (upd Φ k (cmeaning lengths Φ f))
  costs_next k l = record { costs = λ g arguments w. next_cost k l g (ℕ_discrete g k) arguments w }

pub known_length : (known : List ℕ) (n k : ℕ) → length known ≡ k → length (known ++ n ∷ []) ≡ suc k
known_length known n k l = simp length-append (omega arith)

-- the functions from the k-th on, f the first of them and the j-th the last
exposed_cost : (lengths known : List ℕ) (Φ : ℕ → CFun) → Costs known Φ → (k : ℕ) → length known ≡ k → (f : CFunc) (fs : List CFunc) (j : ℕ)
    → j ≡ k + length fs → (arguments : List ℕ) (w : World)
    → (cexposed lengths Φ k (f ∷ fs) arguments w).1.steps ≡ w.steps + get_or (steps_from known (f ∷ fs)) j 0
unfolding cexposed steps_from
exposed_cost lengths known Φ 𝓒 k l f [] j e arguments w =
    rw (known_last known (steps_f (λ i. get_or known i 0) f) j (omega arith)) (meaning_cost lengths (λ i. get_or known i 0) Φ 𝓒.costs f arguments w)
exposed_cost lengths known Φ 𝓒 k l f (g ∷ fs) j e arguments w =
    exposed_cost lengths (known ++ steps_f (λ i. get_or known i 0) f ∷ []) (upd Φ k (cmeaning lengths Φ f)) (costs_next lengths known Φ 𝓒 f k l) (suc k) (known_length known _ k l) g fs j (omega arith) arguments w

pub nothing_costs : Costs [] cnothing
unfolding cnothing
nothing_costs = record { costs = λ f arguments w. omega arith }

functions_cost : (lengths : List ℕ) (fs : List CFunc) (arguments : List ℕ) (w : World)
    → (cexposed lengths cnothing 0 fs arguments w).1.steps ≡ w.steps + get_or (steps_from [] fs) (length fs - 1) 0
functions_cost lengths [] arguments w = unfold cexposed steps_from in omega arith
functions_cost lengths (f ∷ fs) arguments w = exposed_cost lengths [] cnothing nothing_costs 0 refl f fs _ (omega arith) arguments w

-- every run of a core program takes the same number of steps
pub program_cost : (p : CProgram) (arguments : List ℕ) (w : World) → (cprogram p arguments w).1.steps ≡ w.steps + steps_exposed p
unfolding cprogram steps_exposed steps_of
program_cost p arguments w = functions_cost p.arrays p.funcs arguments w
