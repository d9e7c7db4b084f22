-- A translated expression gives what the script's expression means, in slots that agree on what is visible.
-- Assumes nothing.
use mathlib.Core.Path.{◌≡◌, refl, ap, ◌∙◌}
use mathlib.Core.List.{List}
use Prim.Native.Nat.{ℕ, ◌<◌}
use lib.Dec.{T}
use mathlib.Core.Bool.{true, false}
use Rattle.word.specs.Value.{TRUE, FALSE, Op, add, sub, mul, shl, shr, and, or, eq, ne, gt, lt, ge, le, land, lor, op}
use Rattle.word.specs.Types.{Ty, number, boolean, Val, is_number, is_boolean, op_fine}
use Rattle.word.specs.Slots.{Slots}
use Rattle.word.proofs.Laws.{word, op_val, negate_val, flip_val, flip_negate, and_land, or_lor}
use Rattle.word.proofs.Memory.{Words, no_word, a_word, Bytes, fetch_val}
use Rattle.script.specs.Tree.{Expr, num, tru, fls, var, get, lnot, bnot, bin, call, Exprs, none, more}
use Rattle.script.specs.Types.{ty}
use Rattle.script.specs.Plain.{Fun, value, values}
use Rattle.script.proofs.Judged.{Context, ty_in, Fine, Fines}
use Rattle.script.proofs.Contexts.{Agree}
use Rattle.script.proofs.Pure.{value_pure, values_pure}
use Rattle.tape.specs.Rules.{World, tick}
use Rattle.tape.proofs.Meaning.{CFun, cvalue, cvalues}
use Rattle.translation.specs.Translate.{lowered, EXT, EXTs}
use Rattle.translation.proofs.Yields.{Yields, YieldsAll, lit_yields, var_yields, get_yields, not_yields, bin_yields, none_yields, more_yields, yields_as}

-- where an operator is fine, the core's operator for it gives the same
op_lowered : (o : Op) {l r : Ty} {u v : ℕ} → T (op_fine o l r) → Val u l → Val v r → op (lowered o) u v ≡ op o u v
unfolding lowered
op_lowered add h p q = refl
op_lowered sub h p q = refl
op_lowered mul h p q = refl
op_lowered shl h p q = refl
op_lowered shr h p q = refl
op_lowered and h p q = refl
op_lowered or h p q = refl
op_lowered eq h p q = refl
op_lowered ne h p q = refl
op_lowered gt h p q = refl
op_lowered lt h p q = refl
op_lowered ge h p q = refl
op_lowered le h p q = refl
op_lowered land h p q = and_land h p q
op_lowered lor h p q = or_lor h p q

-- what a core function gives, and what the script's gives: the same number, and the same bytes
pub record Same (r : ℕ × World) (p : ℕ × List ℕ) : Type 0 where
  pub value : r.0 ≡ p.0
  pub bytes : r.1.bytes ≡ p.1
  pub typed : Val p.0 number

-- the functions below k: core and plain give the same; and none stores anything
pub record Lower (k : ℕ) (Φ : ℕ → Fun) (Ψ : ℕ → CFun) : Type 0 where
  pub same : (f : ℕ) → f < k → {arguments m : List ℕ} → Words arguments → Bytes m → (w : World) → w.bytes ≡ m → Same (Ψ f arguments w) (Φ f arguments m)
  pub pure : (f : ℕ) (arguments m : List ℕ) → (Φ f arguments m).1 ≡ m

module _ (lengths : List ℕ) (Φ : ℕ → Fun) (Ψ : ℕ → CFun) (Γ : Context) (σ τ : Slots) where
  pub record Right (e : Expr) (m : List ℕ) : Type 0 where
    pub yields : Yields lengths Ψ τ (EXT e) m (value lengths Φ e σ m).0 (value lengths Φ e σ m).1
    pub typed : Val (value lengths Φ e σ m).0 (ty_in Γ e)

  pub record AllRight (es : Exprs) (m : List ℕ) : Type 0 where
    pub yields : YieldsAll lengths Ψ τ (EXTs es) m (values lengths Φ es σ m).0 (values lengths Φ es σ m).1
    pub typed : Words (values lengths Φ es σ m).0

  get_right : (a : ℕ) (i : Expr) {m : List ℕ} → Bytes (value lengths Φ i σ m).1 → Right i m → Right (get a i) m
  unfolding value EXT ty
  get_right a i b r = record { yields = get_yields a r.yields; typed = fetch_val lengths b a _ }

  lnot_right : (e : Expr) {m : List ℕ} → ty_in Γ e ≡ boolean → Right e m → Right (lnot e) m
  unfolding value EXT ty
  lnot_right e {m} q r =
      let v : Val (value lengths Φ e σ m).0 boolean = rw q at r.typed in
      record { yields = yields_as (flip_negate v) (not_yields r.yields); typed = negate_val v }

  bin_right : (o : Op) (a b : Expr) {m : List ℕ} → T (op_fine o (ty_in Γ a) (ty_in Γ b)) → Right a m → Right b (value lengths Φ a σ m).1 → Right (bin o a b) m
  unfolding value EXT ty
  bin_right o a b h p q =
      record {
        yields = yields_as (op_lowered o h p.typed q.typed) (bin_yields (lowered o) p.yields q.yields);
        typed = op_val o h p.typed q.typed;
      }

  module _ (π : ℕ → ℕ) (k : ℕ) (𝓛 : Lower k Φ Ψ) where
    call_right : (f : ℕ) (es : Exprs) {m : List ℕ} → f < k → Bytes (values lengths Φ es σ m).1 → AllRight es m → Right (call f es) m
    unfolding value cvalue EXT tick ty
    call_right f es {m} h b r =
        let after : World → World = λ w. tick (cvalues lengths Ψ (EXTs es) τ w).1 in
        let m₁ = (values lengths Φ es σ m).1 in
        let called : (w : World) → w.bytes ≡ m₁ → Same (Ψ f (values lengths Φ es σ m).0 w) (Φ f (values lengths Φ es σ m).0 m₁) = 𝓛.same f h r.typed b in
        record {
          yields = record {
            value = λ w q. ap (λ (vs : List ℕ). (Ψ f vs (after w)).0) (r.yields.values w q) ∙ (called (after w) (r.yields.bytes w q)).value;
            bytes = λ w q. ap (λ (vs : List ℕ). (Ψ f vs (after w)).1.bytes) (r.yields.values w q) ∙ (called (after w) (r.yields.bytes w q)).bytes;
          };
          typed = (called (record { bytes = m₁; steps = 0 }) refl).typed;
        }

    -- the bytes that an expression leaves
    pub still : (e : Expr) {m : List ℕ} → Bytes m → Bytes (value lengths Φ e σ m).1
    still e {m} b = rw (value_pure lengths Φ 𝓛.pure e σ m) b

    module _ (𝓐 : Agree Γ σ τ) where
      mutual
        unfolding value EXT ty Fine

        pub right : (e : Expr) → Fine π k Γ e → {m : List ℕ} → Bytes m → Right e m
        right (num n) h b = record { yields = lit_yields n; typed = is_number h }
        right tru h b = record { yields = lit_yields TRUE; typed = is_boolean true refl }
        right fls h b = record { yields = lit_yields FALSE; typed = is_boolean false refl }
        right (var x) h b = record { yields = yields_as (𝓐.same x _ h) (var_yields x); typed = 𝓐.typed x _ h }
        right (get a i) h b = get_right a i (still i b) (right i h.0 b)
        right (lnot e) h b = lnot_right e h.1 (right e h.0 b)
        right (bnot e) h b = record { yields = not_yields (right e h.0 b).yields; typed = flip_val _ }
        right (bin o x y) h b = bin_right o x y h.2 (right x h.0 b) (right y h.1 (still x b))
        right (call f es) h b = call_right f es h.0 (rw (values_pure lengths Φ 𝓛.pure es σ _) b) (all_right es h.2 b)

        pub all_right : (es : Exprs) → Fines π k Γ es → {m : List ℕ} → Bytes m → AllRight es m
        all_right none h b = record { yields = none_yields; typed = no_word }
        all_right (more e es) h b =
            let p = right e h.0 b in
            let r = all_right es h.2 (still e b) in
            record { yields = more_yields p.yields r.yields; typed = a_word (word p.typed) r.typed }
