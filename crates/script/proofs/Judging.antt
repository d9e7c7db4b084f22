-- Every accepted script is sound: where the stages of scope, types and stores found no fault, a script within its ranges is one of those that the
-- compiler's theorem is about. Assumes nothing.
use mathlib.Core.Path.{◌≡◌, refl, sym, ap, ◌∙◌, subst, subst₂}
use mathlib.Core.Bool.{false}
use mathlib.Core.List.{List, [], ◌∷◌}
use Prim.Native.Nat.{ℕ, suc, ◌+◌, ◌≤◌}
use native.Mathlib.Omega.{arith}
use native.Mathlib.Nat.{not-suc-le-zero}
use lib.ListN.{length}
use mir.Facts.{and_yes}
use Rattle.word.specs.Types.{Ty, number, boolean}
use Rattle.word.specs.Slots.{upd, Seen, fixed, defined, hidden}
use Rattle.word.proofs.Memory.{upd_same, upd_other}
use Rattle.script.specs.Tree.{Expr, Stmt, skip, seq, def, set, put, for, if, return, Stmts, done, next, Func, Program, size_e, size_s, size_f}
use Rattle.script.specs.Stage.{goes, each_func, first_func, over_program}
use Rattle.script.specs.Scope.{Names, settable, declare, scope_s, scope_ss, scope_f}
use Rattle.script.specs.Types.{Types, ty, numeric, suits, type_s, type_ss, type_f}
use Rattle.script.specs.Stores.{store_s, store_ss, helpers, stores}
use Rattle.script.specs.Parse.{entered}
use Rattle.script.specs.Written.{Inside, Insides, head_of, InFunc, Within}
use Rattle.script.specs.declared.Env.{Env}
use Rattle.script.proofs.Walks.{faulty, both_clean, after_goes, onward_goes, refuse_goes, ended_clean, required}
use Rattle.script.proofs.Scoping.{closed, close_goes}
use Rattle.script.proofs.Judged.{shows, Context, ty_in, after_s, after_ss, Fine, Sound, Sounds, NoPut, NoPuts, SoundFunc, SoundFrom, the_last, one_more, params_at, SoundProgram}
use Rattle.script.proofs.Placing.{Places, Ordered, a_func, ordered}
use Rattle.script.proofs.Viewing.{shown_as, view, is_number, is_boolean, are_alike, ty_view, fine}
use Rattle.script.proofs.Declaring.{Held, Later, later_refl, later_trans, held_declare, later_declare, view_declare, closed_held, closed_later, view_later, begin_held, begin_view}
use Rattle.std.specs.Prelude.{Ok}

settable_shown : (k : Seen) (at : ℕ) (t : Ty) → settable k at ≡ Ok tt → shown_as k t ≡ shows t
unfolding settable shown_as
settable_shown hidden at t e = absurd (faulty e)
settable_shown fixed at t e = absurd (faulty e)
settable_shown defined at t e = refl

same_goes : {A : Type 0} {a b : A} → goes a ≡ goes b → a ≡ b
same_goes e = cc

module _ (π : ℕ → ℕ) (k : ℕ) (v : Env) (𝓟 : Places π k v) where
  -- a statement is sound, and the context after it is what the stages know then
  pub record Walks (n : Names) (Γ : Types) (s : Stmt) (m : Names) (Δ : Types) : Type 0 where
    pub sound : Sound π k v.slots (view n.seen Γ) s
    pub follows : view m.seen Δ ≡ after_s (view n.seen Γ) s
    pub held : Held m Δ
    pub later : Later n Γ m Δ

  pub record WalksAll (n : Names) (Γ : Types) (ss : Stmts) (m : Names) (Δ : Types) : Type 0 where
    pub sound : Sounds π k v.slots (view n.seen Γ) ss
    pub follows : view m.seen Δ ≡ after_ss (view n.seen Γ) ss
    pub held : Held m Δ
    pub later : Later n Γ m Δ

  -- a statement that declares nothing
  still : {n m : Names} {Γ Δ : Types} {s : Stmt} → Held n Γ → goes n ≡ goes m → goes Γ ≡ goes Δ
      → view n.seen Γ ≡ after_s (view n.seen Γ) s → Sound π k v.slots (view n.seen Γ) s → Walks n Γ s m Δ
  still {n} {Γ} {s} h p q f g =
      subst₂ (λ (m : Names) (Δ : Types). Walks n Γ s m Δ) (same_goes p) (same_goes q) (record { sound = g; follows = f; held = h; later = later_refl })

  judge_def : (x : ℕ) (e : Expr) (at : ℕ) {n m : Names} {Γ Δ : Types} → Held n Γ
      → scope_s n at (def x e) ≡ goes m → type_s Γ at (def x e) ≡ goes Δ → Inside v (def x e) → Walks n Γ (def x e) m Δ
  unfolding scope_s type_s Inside Sound after_s view shown_as
  judge_def x e at {n} {m} {Γ} {Δ} h s t i =
      let a = refuse_goes (n.declared x) 8 at s in
      let b = after_goes _ a.1 in
      let c = after_goes _ t in
      let u = ty_view n.seen Γ e (at + 1) b.0 in
      let other = upd_other Γ x (ty Γ e) in
      let new = upd Γ x (ty Γ e) in
      subst₂ (λ (m : Names) (Δ : Types). Walks n Γ (def x e) m Δ) (same_goes b.1) (same_goes c.1)
      (record {
        sound = (i.0, ap (λ (z : Seen). shown_as z (Γ x)) (h.unseen x a.0), fine n.seen Γ π k v 𝓟 e (at + 1) b.0 c.0 i.1.0);
        follows = view_declare n x defined Γ new other (ty Γ e) (upd_same Γ x (ty Γ e)) refl ∙ ap (λ (z : Ty). upd (view n.seen Γ) x (shows z)) (sym u);
        held = held_declare n x defined Γ new other h;
        later = later_declare n x defined Γ new other a.0;
      })

  judge_set : (x : ℕ) (e : Expr) (at : ℕ) {n m : Names} {Γ Δ : Types} → Held n Γ
      → scope_s n at (set x e) ≡ goes m → type_s Γ at (set x e) ≡ goes Δ → Inside v (set x e) → Walks n Γ (set x e) m Δ
  unfolding scope_s type_s suits Inside Sound after_s view
  judge_set x e at {n} {m} {Γ} {Δ} h s t i =
      let a = after_goes _ s in
      let b = after_goes _ a.1 in
      let c = after_goes _ t in
      let d = after_goes _ c.1 in
      let u = ty_view n.seen Γ e (at + 1) b.0 in
      let w = are_alike (Γ x) (ty Γ e) (required _ at c.0) in
      still h b.1 d.1 refl (
        fine n.seen Γ π k v 𝓟 e (at + 1) b.0 d.0 i.1.0,
        settable_shown (n.seen x) at (Γ x) a.0 ∙ ap shows (w ∙ sym u),
      )

  judge_put : (a : ℕ) (j e : Expr) (at : ℕ) {n m : Names} {Γ Δ : Types} → Held n Γ
      → scope_s n at (put a j e) ≡ goes m → type_s Γ at (put a j e) ≡ goes Δ → Inside v (put a j e) → Walks n Γ (put a j e) m Δ
  unfolding scope_s type_s suits numeric Inside Sound after_s
  judge_put a j e at {n} {m} {Γ} {Δ} h s t i =
      let b = after_goes _ s in
      let c = after_goes _ b.1 in
      let d = after_goes _ t in
      let f = after_goes _ d.1 in
      let g = after_goes _ f.1 in
      let w = and_yes (numeric Γ j) (numeric Γ e) (required _ at d.0) in
      still h c.1 g.1 refl (
        fine n.seen Γ π k v 𝓟 j (at + 1) b.0 f.0 i.1.0,
        ty_view n.seen Γ j (at + 1) b.0 ∙ is_number _ w.0,
        fine n.seen Γ π k v 𝓟 e (at + 1 + size_e j) c.0 g.0 i.2.0,
        ty_view n.seen Γ e (at + 1 + size_e j) c.0 ∙ is_number _ w.1,
      )

  judge_return : (e : Expr) (at : ℕ) {n m : Names} {Γ Δ : Types} → Held n Γ
      → scope_s n at (return e) ≡ goes m → type_s Γ at (return e) ≡ goes Δ → Inside v (return e) → Walks n Γ (return e) m Δ
  unfolding scope_s type_s suits numeric Inside Sound after_s
  judge_return e at {n} {m} {Γ} {Δ} h s t i =
      let b = after_goes _ s in
      let d = after_goes _ t in
      let f = after_goes _ d.1 in
      still h b.1 f.1 refl (
        fine n.seen Γ π k v 𝓟 e (at + 1) b.0 f.0 i.0,
        ty_view n.seen Γ e (at + 1) b.0 ∙ is_number _ (required _ at d.0),
      )

  -- a loop, from its body
  judge_for : (x q r : ℕ) (s : Stmt) {n m : Names} {Γ Δ : Types} → Held n Γ → n.declared x ≡ false → Inside v (for x q r s)
      → Walks (declare n x fixed) Γ s m Δ → Walks n Γ (for x q r s) (closed n m) Δ
  unfolding Inside Sound after_s view shown_as
  judge_for x q r s {n} {m} {Γ} {Δ} h u i w =
      let inner : view (declare n x fixed).seen Γ ≡ upd (view n.seen Γ) x (shows number) = view_declare n x fixed Γ Γ (λ y d. refl) number (h.untyped x u) refl in
      let l : Later n Γ m Δ = later_trans (later_declare n x fixed Γ Γ (λ y d. refl) u) w.later in
      record {
        sound = (
          i.0,
          ap (λ (z : Seen). shown_as z (Γ x)) (h.unseen x u),
          i.1,
          i.2,
          subst (λ (Θ : Context). Sound π k v.slots Θ s) inner w.sound,
        );
        follows = view_later h l;
        held = closed_held h l w.held;
        later = closed_later l;
      }

  -- an IF, from its branches
  judge_if : (c : Expr) (s t : Stmt) {n m o : Names} {Γ Δ Θ : Types} → Held n Γ → Fine π k (view n.seen Γ) c → ty_in (view n.seen Γ) c ≡ boolean
      → Walks n Γ s m Δ → Walks (closed n m) Δ t o Θ → Walks n Γ (if c s t) (closed n o) Θ
  unfolding Sound after_s
  judge_if c s t {n} {m} {o} {Γ} {Δ} {Θ} h f b w u =
      let l : Later n Γ o Θ = later_trans (closed_later w.later) u.later in
      record {
        sound = (f, b, w.sound, subst (λ (Ξ : Context). Sound π k v.slots Ξ t) (view_later h w.later) u.sound);
        follows = view_later h l;
        held = closed_held h l u.held;
        later = closed_later l;
      }

  ends_as : {n m o : Names} {Γ Δ : Types} {s : Stmt} → m ≡ o → Walks n Γ s o Δ → Walks n Γ s m Δ
  ends_as e w = rw e w

  mutual
    unfolding scope_s type_s suits numeric Inside Sound after_s

    pub judge : (s : Stmt) (at : ℕ) {n m : Names} {Γ Δ : Types} → Held n Γ → scope_s n at s ≡ goes m → type_s Γ at s ≡ goes Δ → Inside v s → Walks n Γ s m Δ
    judge skip at h s t i = still h s t refl tt
    judge (seq ss) at h s t i =
        let w = judge_all ss (at + 1) h s t i.2 in
        record { sound = w.sound; follows = w.follows; held = w.held; later = w.later }
    judge (def x e) at h s t i = judge_def x e at h s t i
    judge (set x e) at h s t i = judge_set x e at h s t i
    judge (put a j e) at h s t i = judge_put a j e at h s t i
    judge (for x q r b) at {n} {Γ} h s t i =
        let a = refuse_goes (n.declared x) 8 at s in
        let c = close_goes n _ a.1 in
        ends_as c.2 (judge_for x q r b h a.0 i (judge b (at + 1) (held_declare n x fixed Γ Γ (λ y d. refl) h) c.1 t i.3))
    judge (if c b d) at {n} {Γ} h s t i =
        let p = after_goes _ s in
        let q = onward_goes _ p.1 in
        let first = close_goes n _ q.1 in
        let second = close_goes q.0 _ q.2 in
        let f = after_goes _ t in
        let g = after_goes _ f.1 in
        let u = onward_goes _ g.1 in
        let w = judge b (at + 1 + size_e c) h first.1 u.1 i.1 in
        let again = subst (λ (z : Names). scope_s z (at + 1 + size_e c + size_s b) d ≡ goes second.0) first.2 second.1 in
        let x = judge d (at + 1 + size_e c + size_s b) (closed_held h w.later w.held) again u.2 i.2 in
        ends_as (second.2 ∙ ap (λ (z : Names). closed z second.0) first.2)
        (judge_if c b d h (fine n.seen Γ π k v 𝓟 c (at + 1) p.0 g.0 i.0.0)
        (ty_view n.seen Γ c (at + 1) p.0 ∙ is_boolean _ (required _ at f.0)) w x)
    judge (return e) at h s t i = judge_return e at h s t i

    pub judge_all : (ss : Stmts) (at : ℕ) {n m : Names} {Γ Δ : Types} → Held n Γ → scope_ss n at ss ≡ goes m → type_ss Γ at ss ≡ goes Δ → Insides v ss → WalksAll n Γ ss m Δ
    judge_all done at {n} {Γ} h s t i =
        subst₂ (λ (m : Names) (Δ : Types). WalksAll n Γ done m Δ) (same_goes s) (same_goes t) (record { sound = tt; follows = refl; held = h; later = later_refl })
    judge_all (next b bs) at {n} {Γ} h s t i =
        let p = onward_goes _ s in
        let q = onward_goes _ t in
        let w = judge b at h p.1 q.1 i.0 in
        let x = judge_all bs (at + size_s b) w.held p.2 q.2 i.1 in
        record {
          sound = (w.sound, subst (λ (Ξ : Context). Sounds π k v.slots Ξ bs) w.follows x.sound);
          follows = x.follows ∙ ap (λ (Ξ : Context). after_ss Ξ bs) w.follows;
          held = x.held;
          later = later_trans w.later x.later;
        }

-- ---- stores
mutual
  unfolding store_s NoPut

  no_put : (s : Stmt) (at : ℕ) → store_s at s ≡ Ok tt → NoPut s
  no_put skip at h = tt
  no_put (seq ss) at h = no_puts ss (at + 1) h
  no_put (def x e) at h = tt
  no_put (set x e) at h = tt
  no_put (put a i e) at h = absurd (faulty h)
  no_put (for x q r s) at h = no_put s (at + 1) h
  no_put (if c s t) at h =
      let b = both_clean _ h in
      (no_put s (at + 1 + size_e c) b.0, no_put t (at + 1 + size_e c + size_s s) b.1)
  no_put (return e) at h = tt

  no_puts : (ss : Stmts) (at : ℕ) → store_ss at ss ≡ Ok tt → NoPuts ss
  no_puts done at h = tt
  no_puts (next s ss) at h =
      let b = both_clean _ h in
      (no_put s at b.0, no_puts ss (at + size_s s) b.1)

-- ---- functions and the program
module _ (π : ℕ → ℕ) where
  func_sound : (k at : ℕ) (f : Func) {v : Env} → Places π k (entered v (head_of f)) → InFunc v f → scope_f at f ≡ Ok tt → type_f at f ≡ Ok tt → SoundFunc π k f
  unfolding scope_f type_f entered
  func_sound k at f {v} 𝓟 h s t =
      let a = ended_clean _ s in
      let b = ended_clean _ t in
      let w = judge π k (entered v (head_of f)) 𝓟 f.body (at + 1) (begin_held f.params) a.1 b.1 h.body in
      record { room = h.room; body = subst (λ (Γ : Context). Sound π k f.slots Γ f.body) (begin_view f.params) w.sound }

  funcs_sound : (k at : ℕ) (fs : List Func) → 1 ≤ length fs → Ordered π k fs
      → each_func scope_f at fs ≡ Ok tt → each_func type_f at fs ≡ Ok tt → helpers at fs ≡ Ok tt → SoundFrom π k fs
  unfolding each_func helpers
  funcs_sound k at [] l o s t h = absurd (not-suc-le-zero l)
  funcs_sound k at (f ∷ []) l (a_func 𝓟 i o) s t h = the_last (func_sound k at f 𝓟 i (both_clean _ s).0 (both_clean _ t).0)
  funcs_sound k at (f ∷ g ∷ fs) l (a_func 𝓟 i o) s t h =
      let a = both_clean _ s in
      let b = both_clean _ t in
      let c = both_clean _ h in
      one_more (func_sound k at f 𝓟 i a.0 b.0) (no_put f.body (at + 1) c.0)
      (funcs_sound (suc k) (at + size_f f) (g ∷ fs) (omega arith) o a.1 b.1 c.1)

-- a script within its ranges in which no stage found a fault is sound
pub accepted_sound : (p : Program) → Within p → over_program scope_f p ≡ Ok tt → over_program type_f p ≡ Ok tt → stores p ≡ Ok tt → SoundProgram p
unfolding over_program stores
accepted_sound p w s t h = funcs_sound (params_at p.funcs) 0 (first_func p) p.funcs w.some (ordered p w) s t h
