-- An active state goes on as the plain run does: a translated statement takes it to the state that the plain outcome asks for.
-- Assumes nothing.
use mathlib.Core.Path.{◌≡◌}
use mathlib.Core.List.{List}
use Prim.Native.Nat.{ℕ, zero, suc, ◌+◌, ◌-◌, ◌^◌, ◌≤◌, ◌<◌}
use native.Mathlib.Omega.{arith}
use Rattle.word.specs.Types.{number, is_number}
use Rattle.word.specs.Slots.{Slots, upd}
use Rattle.script.specs.Tree.{Stmt, skip, seq, def, set, put, for, if, return, Stmts, done, next}
use Rattle.script.specs.Plain.{Fun, Outcome, Step, onward, passes, run, runs}
use Rattle.script.proofs.Judged.{Context, hides, shows, after_s, after_ss, Sound, Sounds}
use Rattle.script.proofs.Contexts.{Below, grows_trans, grows_upd, beside_upd, below_upd, after_grows, after_below}
use Rattle.tape.specs.Rules.{tick}
use Rattle.tape.proofs.Meaning.{State, CFun, assign, cpasses, crun}
use Rattle.translation.specs.Translate.{layout, STT, STTs}
use Rattle.translation.proofs.Expressions.{Lower}
use Rattle.translation.proofs.Relation.{Active, Ended, After, went, came, Framed, ActiveAt, AfterAt, IdleAt, KeptBy, idle_of_ended, ended_kept, outcome_grows}
use Rattle.translation.proofs.Frame.{frame_pass}
use Rattle.translation.proofs.Idle.{idle_passes, idle_pass, idle, idle_all}
use Rattle.translation.proofs.Acting.{Acts, active_upd, active_def, active_set, active_put, active_return}
use Rattle.translation.proofs.Branches.{active_if}

-- what follows an outcome
after_onward : {n : ℕ} {Γ Γ' : Context} {d : ℕ} {τ τ' : Slots} {b b' : List ℕ} {o : Outcome} (g : Step)
    → ((σ : Slots) (m : List ℕ) → Active n Γ d σ m τ b → After n Γ' d τ' b' (g σ m))
    → ((v : ℕ) (m : List ℕ) → Ended n Γ v m τ b → Ended n Γ' v m τ' b')
    → After n Γ d τ b o → After n Γ' d τ' b' (onward o g)
unfolding onward
after_onward g p q (went {σ} {m} a) = p σ m a
after_onward g p q (came {v} {m} e) = came (q v m e)

module _ (lengths : List ℕ) (π : ℕ → ℕ) (k n : ℕ) {Φ : ℕ → Fun} {Ψ : ℕ → CFun} (𝓛 : Lower k Φ Ψ) where
  -- passes, until one returns
  active_passes : {Γ : Context} {d : ℕ} (g : ℕ → Step) (f : ℕ → State → State)
      → ((i : ℕ) (st : State) → Framed n d st.slots (f i st).slots)
      → ((i : ℕ) (st : State) → i < 2 ^ 32 → IdleAt n Γ d st → KeptBy n Γ Γ st (f i st))
      → ((i : ℕ) (st : State) (σ : Slots) (m : List ℕ) → i < 2 ^ 32 → ActiveAt n Γ d σ m st → AfterAt n Γ d (f i st) (g i σ m))
      → (c i : ℕ) (st : State) (σ : Slots) (m : List ℕ) → i + c ≤ 2 ^ 32 → ActiveAt n Γ d σ m st → AfterAt n Γ d (cpasses f c i st) (passes g c i σ m)
  unfolding cpasses passes
  active_passes g f p q r zero i st σ m h a = went a
  active_passes g f p q r (suc c) i st σ m h a =
      after_onward (passes g c (suc i)) (λ σ₁ m₁ a₁. active_passes g f p q r c (suc i) (f i st) σ₁ m₁ (omega arith) a₁)
      (λ v m₁ e. ended_kept e (idle_passes lengths π k n 𝓛 f p q c (suc i) (f i st) (omega arith) (idle_of_ended e)))
      (r i st σ m (omega arith) a)

  active_pass : (x : ℕ) (s : Stmt) {Γ : Context} {d : ℕ} → x < n → Γ x ≡ hides → Sound π k n (upd Γ x (shows number)) s
      → ((σ : Slots) (m : List ℕ) → Acts lengths Φ Ψ n s (upd Γ x (shows number)) d σ m)
      → (i : ℕ) (st : State) (σ : Slots) (m : List ℕ) → i < 2 ^ 32 → ActiveAt n Γ d σ m st
      → AfterAt n Γ d (crun lengths Ψ (STT (layout n) d s) (assign st.slots x i st.world)) (run lengths Φ s (upd σ x i) m)
  unfolding assign tick
  active_pass x s {Γ} {d} l h g p i st σ m q a =
      let a₁ = active_upd (beside_upd x number) (is_number q) l a.all a in
      outcome_grows (grows_trans (grows_upd x number h) (after_grows π k n s g))
      (p (upd σ x i) m (assign st.slots x i st.world)
      (record { agree = a₁.agree; context = a₁.context; unset = a₁.unset; live = a₁.live; bytes = a.bytes; all = a.all }))

  mutual
    unfolding crun STT run Sound after_s

    pub active : (s : Stmt) {Γ : Context} → Sound π k n Γ s → Below n Γ → (d : ℕ) (σ : Slots) (m : List ℕ) → Acts lengths Φ Ψ n s Γ d σ m
    active skip h l d σ m st a = went a
    active (seq ss) h l d σ m st a = active_all ss h l d σ m st a
    active (def x e) h l d σ m st a = active_def lengths π k n 𝓛 x e h.0 h.2 st a
    active (set x e) h l d σ m st a = active_set lengths π k n 𝓛 x e d l h.0 h.1 st a
    active (put z i e) h l d σ m st a = active_put lengths π k n 𝓛 z i e d h.0 h.2 st a
    active (for x q r s) h l d σ m st a =
        let l₁ = below_upd number h.0 l in
        active_passes _ _ (frame_pass lengths Ψ π k n x s h.0 h.4 l d)
        (idle_pass lengths π k n 𝓛 x s h.0 h.1 h.4 (idle lengths π k n 𝓛 s h.4 l₁ d))
        (active_pass x s h.0 h.1 h.4 (active s h.4 l₁ d)) (r - q) q st σ m (omega (arith, h.2, h.3)) a
    active (if c s t) h l d σ m st a =
        active_if lengths π k n 𝓛 c s t d h.0 h.1 h.2 h.3 l (active s h.2 l (suc d) σ) (active t h.3 l (suc d) σ) st a
    active (return e) h l d σ m st a = active_return lengths π k n 𝓛 e d l h.0 h.1 st a

    pub active_all : (ss : Stmts) {Γ : Context} → Sounds π k n Γ ss → Below n Γ → (d : ℕ) (σ : Slots) (m : List ℕ) (st : State) → ActiveAt n Γ d σ m st
        → AfterAt n (after_ss Γ ss) d (crun lengths Ψ (STTs (layout n) d ss) st) (runs lengths Φ ss σ m)
    active_all done h l d σ m st a = went a
    active_all (next s ss) h l d σ m st a =
        let l₁ = after_below π k n s h.0 l in
        after_onward (runs lengths Φ ss) (λ σ₁ m₁ a₁. active_all ss h.1 l₁ d σ₁ m₁ _ a₁)
        (λ v m₁ e. ended_kept e (idle_all lengths π k n 𝓛 ss h.1 l₁ d _ (idle_of_ended e)))
        (active s h.0 l d σ m st a)
