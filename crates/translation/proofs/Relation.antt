-- The simulation relation. In a function with n slots, at IF depth d, a core state (slots τ, bytes b) stands to a plain one (slots σ, bytes m) in one of two
-- relations:
--   Active   the plain run has come here: its visible slots and bytes agree, the context is TRUE, rnset is TRUE, rval FALSE;
--   Idle     it has not, in a branch that is not taken or after a return: the context or rnset is FALSE.
-- A statement takes Active to Active, or to Ended (rval has the value, rnset is FALSE), and Idle to a state that has Kept rval, rnset, the bytes and what was
-- visible. Assumes nothing.
use mathlib.Core.Path.{◌≡◌, refl, sym, ap, ap₂, ◌∙◌, subst}
use mathlib.Core.List.{List}
use Prim.Native.Nat.{ℕ, zero, suc, ◌+◌, ◌^◌, ◌<◌}
use native.Mathlib.Omega.{arith}
use lib.Dec.{lit<}
use Rattle.word.specs.Value.{TRUE, FALSE, and, op}
use Rattle.word.specs.Types.{Ty, number, Val}
use Rattle.word.specs.Slots.{Slots, upd}
use Rattle.word.proofs.Laws.{and_false}
use Rattle.word.proofs.Memory.{upd_other, Bytes}
use Rattle.script.specs.Plain.{Outcome, goes, returned}
use Rattle.script.proofs.Judged.{Context, hides, shows}
use Rattle.script.proofs.Contexts.{Grows, Below, apart, beside_upd, Agree, Typed, agree_grows, typed_of, agree_upd, agree_aside}
use Rattle.tape.proofs.Meaning.{State}
use Rattle.translation.specs.Translate.{layout}

-- where a function with n slots keeps the translation's own values
abbrev pub rval : ℕ → ℕ
rval n = (layout n).rval

abbrev pub rnset : ℕ → ℕ
rnset n = (layout n).rnset

abbrev pub condition : ℕ → ℕ → ℕ
condition n d = (layout n).condition d

module _ (n : ℕ) where
  -- the context's value
  unfoldable pub on : ℕ → Slots → ℕ
  on zero τ = TRUE
  on (suc d) τ = op and (τ (condition n d)) (on d τ)

  pub data Off (d : ℕ) (τ : Slots) : Type 0 where
    untaken : on d τ ≡ FALSE → Off d τ
    ended : τ (rnset n) ≡ FALSE → Off d τ

  pub record Active (Γ : Context) (d : ℕ) (σ : Slots) (m : List ℕ) (τ : Slots) (b : List ℕ) : Type 0 where
    pub agree : Agree Γ σ τ
    pub context : on d τ ≡ TRUE
    pub unset : τ (rval n) ≡ FALSE
    pub live : τ (rnset n) ≡ TRUE
    pub bytes : b ≡ m
    pub all : Bytes m

  pub record Ended (Γ : Context) (v : ℕ) (m : List ℕ) (τ : Slots) (b : List ℕ) : Type 0 where
    pub typed : Typed Γ τ
    pub value : τ (rval n) ≡ v
    pub number : Val v number
    pub shut : τ (rnset n) ≡ FALSE
    pub bytes : b ≡ m
    pub all : Bytes m

  pub data After (Γ : Context) (d : ℕ) (τ : Slots) (b : List ℕ) : Outcome → Type 0 where
    went : {σ : Slots} {m : List ℕ} → Active Γ d σ m τ b → After Γ d τ b (goes σ m)
    came : {v : ℕ} {m : List ℕ} → Ended Γ v m τ b → After Γ d τ b (returned v m)

  pub record Idle (Γ : Context) (d : ℕ) (τ : Slots) (b : List ℕ) : Type 0 where
    pub typed : Typed Γ τ
    pub off : Off d τ
    pub word : τ (rnset n) < 2 ^ 32
    pub all : Bytes b

  pub record Kept (Γ Γ' : Context) (τ : Slots) (b : List ℕ) (τ' : Slots) (b' : List ℕ) : Type 0 where
    pub typed : Typed Γ' τ'
    pub keeps : (x : ℕ) (t : Ty) → Γ x ≡ shows t → τ' x ≡ τ x
    pub value : τ' (rval n) ≡ τ (rval n)
    pub set : τ' (rnset n) ≡ τ (rnset n)
    pub bytes : b' ≡ b

  -- the same, of a state
  abbrev pub ActiveAt : Context → ℕ → Slots → List ℕ → State → Type 0
  ActiveAt Γ d σ m st = Active Γ d σ m st.slots st.world.bytes

  abbrev pub AfterAt : Context → ℕ → State → Outcome → Type 0
  AfterAt Γ d st o = After Γ d st.slots st.world.bytes o

  abbrev pub IdleAt : Context → ℕ → State → Type 0
  IdleAt Γ d st = Idle Γ d st.slots st.world.bytes

  abbrev pub KeptBy : Context → Context → State → State → Type 0
  KeptBy Γ Γ' st st' = Kept Γ Γ' st.slots st.world.bytes st'.slots st'.world.bytes

  -- the conditions round depth d are as they were
  pub record Framed (d : ℕ) (τ τ' : Slots) : Type 0 where
    pub conditions : (j : ℕ) → j < d → τ' (condition n j) ≡ τ (condition n j)

-- ---- laws of the relation
module _ {n : ℕ} where
  pub framed_refl : {d : ℕ} {τ : Slots} → Framed n d τ τ
  framed_refl = record { conditions = λ j h. refl }

  pub framed_trans : {d : ℕ} {τ τ₁ τ₂ : Slots} → Framed n d τ τ₁ → Framed n d τ₁ τ₂ → Framed n d τ τ₂
  framed_trans p q = record { conditions = λ j h. q.conditions j h ∙ p.conditions j h }

  pub framed_up : {d : ℕ} {τ τ' : Slots} → Framed n (suc d) τ τ' → Framed n d τ τ'
  framed_up p = record { conditions = λ j h. p.conditions j (omega arith) }

  -- a slot below the conditions
  pub framed_low : (d : ℕ) (τ : Slots) {x : ℕ} (v : ℕ) → x < n + 2 → Framed n d τ (upd τ x v)
  framed_low d τ {x} v h = record { conditions = λ j k. upd_other τ x v (condition n j) (omega arith) }

  -- a deeper condition
  pub framed_condition : (d : ℕ) (τ : Slots) (v : ℕ) → Framed n d τ (upd τ (condition n d) v)
  framed_condition d τ v = record { conditions = λ j k. upd_other τ (condition n d) v (condition n j) (omega arith) }

  pub on_framed : (d : ℕ) {τ τ' : Slots} → Framed n d τ τ' → on n d τ' ≡ on n d τ
  unfolding on
  on_framed zero p = refl
  on_framed (suc d) p = ap₂ (op and) (p.conditions d (omega arith)) (on_framed d (framed_up p))

  pub deeper : {d : ℕ} {τ : Slots} → Off n d τ → Off n (suc d) τ
  unfolding on
  deeper {d} {τ} (untaken h) = untaken (ap (op and (τ (condition n d))) h ∙ and_false (τ (condition n d)))
  deeper (ended h) = ended h

  off_framed : {d : ℕ} {τ τ' : Slots} → Framed n d τ τ' → τ' (rnset n) ≡ τ (rnset n) → Off n d τ → Off n d τ'
  off_framed {d} p q (untaken h) = untaken (on_framed d p ∙ h)
  off_framed p q (ended h) = ended (q ∙ h)

  pub idle_deeper : {Γ : Context} {d : ℕ} {τ : Slots} {b : List ℕ} → Idle n Γ d τ b → Idle n Γ (suc d) τ b
  idle_deeper i = record { typed = i.typed; off = deeper i.off; word = i.word; all = i.all }

  pub idle_kept : {Γ Γ' : Context} {d : ℕ} {τ τ' : Slots} {b b' : List ℕ} → Framed n d τ τ' → Kept n Γ Γ' τ b τ' b' → Idle n Γ d τ b → Idle n Γ' d τ' b'
  idle_kept p k i =
      record {
        typed = k.typed;
        off = off_framed p k.set i.off;
        word = rw k.set i.word;
        all = subst Bytes (sym k.bytes) i.all;
      }

  pub idle_of_ended : {Γ : Context} {d : ℕ} {v : ℕ} {m : List ℕ} {τ : Slots} {b : List ℕ} → Ended n Γ v m τ b → Idle n Γ d τ b
  idle_of_ended e =
      record { typed = e.typed; off = ended e.shut; word = rw e.shut (lit< tt); all = subst Bytes (sym e.bytes) e.all }

  pub kept_refl : {Γ : Context} {τ : Slots} {b : List ℕ} → Typed Γ τ → Kept n Γ Γ τ b τ b
  kept_refl a = record { typed = a; keeps = λ x t q. refl; value = refl; set = refl; bytes = refl }

  pub kept_trans : {Γ Γ₁ Γ₂ : Context} {τ τ₁ τ₂ : Slots} {b b₁ b₂ : List ℕ}
      → Grows Γ Γ₁ → Kept n Γ Γ₁ τ b τ₁ b₁ → Kept n Γ₁ Γ₂ τ₁ b₁ τ₂ b₂ → Kept n Γ Γ₂ τ b τ₂ b₂
  kept_trans p k l =
      record {
        typed = l.typed;
        keeps = λ x t q. l.keeps x t (p.sees x t q) ∙ k.keeps x t q;
        value = l.value ∙ k.value;
        set = l.set ∙ k.set;
        bytes = l.bytes ∙ k.bytes;
      }

  pub kept_grows : {Γ Γ₁ Γ₂ : Context} {τ τ' : Slots} {b b' : List ℕ} → Grows Γ Γ₁ → Grows Γ Γ₂ → Kept n Γ₁ Γ₂ τ b τ' b' → Kept n Γ Γ τ b τ' b'
  kept_grows p q k =
      record {
        typed = agree_grows q k.typed;
        keeps = λ x t h. k.keeps x t (p.sees x t h);
        value = k.value;
        set = k.set;
        bytes = k.bytes;
      }

  -- a condition's slot changes
  pub kept_condition : {Γ : Context} (d v : ℕ) {τ : Slots} {b b' : List ℕ} → Below n Γ → Typed Γ τ → b' ≡ b → Kept n Γ Γ τ b (upd τ (condition n d) v) b'
  kept_condition d v {τ} l a q =
      record {
        typed = typed_of (agree_aside (condition n d) v (omega arith) l a);
        keeps = λ x t h. upd_other τ (condition n d) v x (let k : x < n = l.below x t h in omega arith);
        value = upd_other τ (condition n d) v (rval n) (omega arith);
        set = upd_other τ (condition n d) v (rnset n) (omega arith);
        bytes = q;
      }

  -- a slot that was hidden changes, and becomes visible
  pub kept_new : {Γ : Context} {x : ℕ} {t : Ty} {v : ℕ} {τ : Slots} {b b' : List ℕ}
      → x < n → Γ x ≡ hides → Val v t → Typed Γ τ → b' ≡ b → Kept n Γ (upd Γ x (shows t)) τ b (upd τ x v) b'
  kept_new {Γ} {x} {t} {v} {τ} l h p a q =
      record {
        typed = agree_upd v (beside_upd x t) p a;
        keeps = λ y u e. upd_other τ x v y (apart Γ h y u e);
        value = upd_other τ x v (rval n) (omega arith);
        set = upd_other τ x v (rnset n) (omega arith);
        bytes = q;
      }

  pub ended_kept : {Γ Γ' : Context} {v : ℕ} {m : List ℕ} {τ τ' : Slots} {b b' : List ℕ} → Ended n Γ v m τ b → Kept n Γ Γ' τ b τ' b' → Ended n Γ' v m τ' b'
  ended_kept e k =
      record {
        typed = k.typed;
        value = k.value ∙ e.value;
        number = e.number;
        shut = k.set ∙ e.shut;
        bytes = k.bytes ∙ e.bytes;
        all = e.all;
      }

  pub active_kept : {Γ Γ' : Context} {d e : ℕ} {σ : Slots} {m : List ℕ} {τ τ' : Slots} {b b' : List ℕ}
      → on n e τ' ≡ TRUE → Active n Γ d σ m τ b → Kept n Γ Γ' τ b τ' b' → Active n Γ e σ m τ' b'
  active_kept h a k =
      record {
        agree = record { same = λ x t q. k.keeps x t q ∙ a.agree.same x t q; typed = a.agree.typed };
        context = h;
        unset = k.value ∙ a.unset;
        live = k.set ∙ a.live;
        bytes = k.bytes ∙ a.bytes;
        all = a.all;
      }

  pub active_grows : {Γ Γ' : Context} {d : ℕ} {σ : Slots} {m : List ℕ} {τ : Slots} {b : List ℕ} → Grows Γ Γ' → Active n Γ' d σ m τ b → Active n Γ d σ m τ b
  active_grows p a =
      record { agree = agree_grows p a.agree; context = a.context; unset = a.unset; live = a.live; bytes = a.bytes; all = a.all }

  pub ended_grows : {Γ Γ' : Context} {v : ℕ} {m : List ℕ} {τ : Slots} {b : List ℕ} → Grows Γ Γ' → Ended n Γ' v m τ b → Ended n Γ v m τ b
  ended_grows p e =
      record { typed = agree_grows p e.typed; value = e.value; number = e.number; shut = e.shut; bytes = e.bytes; all = e.all }

  pub outcome_grows : {Γ Γ' : Context} {d : ℕ} {τ : Slots} {b : List ℕ} {o : Outcome} → Grows Γ Γ' → After n Γ' d τ b o → After n Γ d τ b o
  outcome_grows p (went a) = went (active_grows p a)
  outcome_grows p (came e) = came (ended_grows p e)
