-- A sound statement's translation leaves the conditions round it alone. Assumes nothing.
use mathlib.Core.List.{List}
use Prim.Native.Nat.{ℕ, zero, suc, ◌+◌, ◌-◌, ◌<◌}
use native.Mathlib.Omega.{arith}
use Rattle.word.specs.Types.{number}
use Rattle.word.specs.Slots.{upd}
use Rattle.script.specs.Tree.{Stmt, skip, seq, def, set, put, for, if, return, Stmts, done, next}
use Rattle.script.proofs.Judged.{Context, shows, Sound, Sounds}
use Rattle.script.proofs.Contexts.{Below, below_upd, after_below}
use Rattle.tape.specs.Core.{CExpr, SET}
use Rattle.tape.proofs.Meaning.{State, CFun, assign, cpasses, crun}
use Rattle.translation.specs.Translate.{layout, STT, STTs}
use Rattle.translation.proofs.Relation.{condition, Framed, framed_refl, framed_trans, framed_up, framed_low, framed_condition}

frames : (n d : ℕ) (f : ℕ → State → State) → ((i : ℕ) (st : State) → Framed n d st.slots (f i st).slots)
    → (c i : ℕ) (st : State) → Framed n d st.slots (cpasses f c i st).slots
unfolding cpasses
frames n d f h zero i st = framed_refl
frames n d f h (suc c) i st = framed_trans (h i st) (frames n d f h c (suc i) (f i st))

module _ (lengths : List ℕ) (Ψ : ℕ → CFun) (π : ℕ → ℕ) (k n : ℕ) where
  pub frame_low : (d x : ℕ) (e : CExpr) (st : State) → x < n + 2 → Framed n d st.slots (crun lengths Ψ (SET x e) st).slots
  unfolding crun assign
  frame_low d x e st h = framed_low d st.slots _ h

  pub frame_condition : (d : ℕ) (e : CExpr) (st : State) → Framed n d st.slots (crun lengths Ψ (SET (condition n d) e) st).slots
  unfolding crun assign
  frame_condition d e st = framed_condition d st.slots _

  mutual
    unfolding crun assign STT Sound

    pub frame : (s : Stmt) {Γ : Context} → Sound π k n Γ s → Below n Γ → (d : ℕ) (st : State) → Framed n d st.slots (crun lengths Ψ (STT (layout n) d s) st).slots
    frame skip h b d st = framed_refl
    frame (seq ss) h b d st = frame_all ss h b d st
    frame (def x e) h b d st = framed_low d st.slots _ (omega (arith, h.0))
    frame (set x e) h b d st = framed_low d st.slots _ (omega (arith, b.below x _ h.1))
    frame (put a i e) h b d st = framed_refl
    frame (for x q r s) h b d st =
        frames n d _ (λ i st₁. framed_trans (framed_low d st₁.slots i (omega (arith, h.0))) (frame s h.4 (below_upd number h.0 b) d _)) (r - q) q st
    frame (if c s t) h b d st =
        framed_trans (framed_condition d st.slots _)
        (framed_trans (framed_up (frame s h.2 b (suc d) _))
        (framed_trans (framed_condition d _ _) (framed_up (frame t h.3 b (suc d) _))))
    frame (return e) h b d st = framed_trans (framed_low d st.slots _ (omega arith)) (framed_low d _ _ (omega arith))

    pub frame_all : (ss : Stmts) {Γ : Context} → Sounds π k n Γ ss → Below n Γ → (d : ℕ) (st : State) → Framed n d st.slots (crun lengths Ψ (STTs (layout n) d ss) st).slots
    frame_all done h b d st = framed_refl
    frame_all (next s ss) h b d st = framed_trans (frame s h.0 b d st) (frame_all ss h.1 (after_below π k n s h.0 b) d _)

  -- one pass of a loop
  pub frame_pass : (x : ℕ) (s : Stmt) {Γ : Context} → x < n → Sound π k n (upd Γ x (shows number)) s → Below n Γ
      → (d i : ℕ) (st : State) → Framed n d st.slots (crun lengths Ψ (STT (layout n) d s) (assign st.slots x i st.world)).slots
  unfolding assign
  frame_pass x s h g b d i st = framed_trans (framed_low d st.slots i (omega arith)) (frame s g (below_upd number h b) d _)
