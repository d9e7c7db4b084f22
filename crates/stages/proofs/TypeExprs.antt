-- The types of expressions: over a table's words the code answers the type and the first fault that `ty` and `type_e` give the tree that stands there.
-- Assumes nothing.
use Prim.Native.Nat.{ℕ, suc, ◌+◌, ◌-◌, ◌≤◌}
use native.Mathlib.Omega.{arith}
use mathlib.Core.Path.{◌≡◌, refl, sym, ap, ◌∙◌}
use mathlib.Core.Bool.{Bool, true, false, not, ◌&&◌, ◌||◌, and_assoc}
use mathlib.Core.List.{List, ◌∷◌}
use borrow.Author.Tests.{ltb-false}
use lib.Dec.{ltb}
use lib.ListN.{length, get_or, get_or-eq_default}
use Rattle.word.specs.Records.{rec}
use Rattle.word.specs.Value.{Op, add, sub, mul, shl, shr, and, or, eq, ne, gt, lt, ge, le, land, lor}
use Rattle.word.specs.Code.{code}
use Rattle.word.specs.Types.{Ty, number, boolean, is_numeric, alike, numbers, booleans, op_ty, op_fine}
use Rattle.word.specs.Sets.{has}
use Rattle.word.specs.declared.Record.{Record}
use Rattle.script.specs.Tree.{Expr, num, tru, fls, var, get, lnot, bnot, bin, call, Exprs, none, more, size_e, size_es}
use Rattle.script.specs.Table.{write_e}
use Rattle.script.specs.Written.{count_e, list_e, list_es, depth_e, depth_es, InE, InEs}
use Rattle.script.specs.Stage.{clean, or_else}
use Rattle.script.specs.Types.{ty, numeric, numerics, fits, require, type_e, type_es}
use Rattle.scoping.specs.Passes.{params_of, arity_of}
use Rattle.stages.specs.Typed.{ty_of, is_boolean, types_of, no_parts, with_part, gather, code_type, code_fits, type_by, fits_by, judged, typed_at}
use Rattle.script.specs.declared.Env.{Env}
use Rattle.script.specs.Stage.{First}
use Rattle.stages.specs.declared.types.Typed.{Typed}
use Rattle.stages.specs.declared.types.Parts.{Parts}
use Rattle.script.proofs.Leading.{from}
use Rattle.scoping.proofs.Found.{finds}
use Rattle.scoping.proofs.Past.{past_e}
use Rattle.stages.proofs.Gathering.{typed_found}
use Rattle.scoping.proofs.Together.{or_assoc}
use Rattle.std.specs.Prelude.{Ok, Err}

-- ---- types as tests
pub boolean_ty : (b : Bool) → is_boolean (ty_of b) ≡ b
unfolding is_boolean ty_of
boolean_ty true = refl
boolean_ty false = refl

pub ty_boolean : (τ : Ty) → ty_of (is_boolean τ) ≡ τ
unfolding is_boolean ty_of
ty_boolean number = refl
ty_boolean boolean = refl

pub numeric_is : (τ : Ty) → not (is_boolean τ) ≡ is_numeric τ
unfolding is_boolean
numeric_is number = refl
numeric_is boolean = refl

pub boolean_is : (τ : Ty) → is_boolean τ ≡ not (is_numeric τ)
unfolding is_boolean
boolean_is number = refl
boolean_is boolean = refl

alike_is : (τ σ : Ty) → numbers τ σ || booleans τ σ ≡ alike τ σ
alike_is number number = refl
alike_is number boolean = refl
alike_is boolean number = refl
alike_is boolean boolean = refl

-- ---- operators
op_type : (o : Op) (τ : Ty) → code_type (code o) (is_boolean τ) ≡ is_boolean (op_ty o τ)
unfolding code_type code op_ty is_boolean
op_type add τ = refl
op_type sub τ = refl
op_type mul τ = refl
op_type shl τ = refl
op_type shr τ = refl
op_type and τ = refl
op_type or τ = refl
op_type eq τ = refl
op_type ne τ = refl
op_type gt τ = refl
op_type lt τ = refl
op_type ge τ = refl
op_type le τ = refl
op_type land τ = refl
op_type lor τ = refl

op_by : (o : Op) (τ σ : Ty) → code_fits (code o) (numbers τ σ) (booleans τ σ) ≡ op_fine o τ σ
unfolding code_fits code op_fine
op_by add τ σ = refl
op_by sub τ σ = refl
op_by mul τ σ = refl
op_by shl τ σ = refl
op_by shr τ σ = refl
op_by and τ σ = alike_is τ σ
op_by or τ σ = alike_is τ σ
op_by eq τ σ = alike_is τ σ
op_by ne τ σ = alike_is τ σ
op_by gt τ σ = refl
op_by lt τ σ = refl
op_by ge τ σ = refl
op_by le τ σ = refl
op_by land τ σ = refl
op_by lor τ σ = refl

op_fits : (o : Op) (τ σ : Ty) → code_fits (code o) (not (is_boolean τ) && not (is_boolean σ)) (is_boolean τ && is_boolean σ) ≡ op_fine o τ σ
op_fits o τ σ = rw (numeric_is τ, numeric_is σ, boolean_is τ, boolean_is σ) (op_by o τ σ)

and_true : (a : Bool) → a ≡ a && true
and_true true = refl
and_true false = refl

pub or_clean : (a : First) → a ≡ or_else a clean
unfolding or_else
or_clean (Ok u) = refl
or_clean (Err r) = refl

-- ---- an expression's answer
abbrev answer : Bool → First → ℕ → Typed
answer b f n = record { boolean = b; first = f; next = record { at = n } }

answer_path : {b c : Bool} {f g : First} {n m : ℕ} → b ≡ c → f ≡ g → n ≡ m → answer b f n ≡ answer c g m
answer_path p q r = λ i. answer (p i) (q i) (r i)

abbrev pub answer_e : ℕ → ℕ → Expr → Typed
answer_e slots at e = answer (is_boolean (ty (types_of slots) e)) (type_e (types_of slots) at e) (at + size_e e)

-- its own requirement, then its parts'
own : (at : ℕ) {b c : Bool} → b ≡ c → (f : First) → or_else (require b at) f ≡ or_else (require c at) f
own at e f = ap (λ (d : Bool). or_else (require d at) f) e

-- as many arguments as there are
params_by : (params : List ℕ) (f : ℕ) (b : Bool) → length params ≡ 16 → ltb f 16 ≡ b → params_of params f ≡ get_or params f 0
unfolding params_of
params_by params f true e h = rw h refl
params_by params f false e h = rw h (sym (get_or-eq_default params 0 {n = f} (omega (arith, ltb-false f 16 h))))

module _ (t params : List ℕ) (slots : ℕ) (v : Env) (sized : length params ≡ 16) (known : v.params ≡ params) where
  -- an expression's record, before its parts
  judges : (x : Record) (left at : ℕ) {rest : List Record} → from t at ≡ x ∷ rest → 1 ≤ left
      → (typed_at t params slots left at ≡ judged slots x at (gather (typed_at t params slots (left - 1)) (arity_of params x) (no_parts (at + 1)))) × (from t (at + 1) ≡ rest)
  judges x left at is some =
      let (read, on) = finds t at is in
      (typed_found t params slots at left x _ some read, on)

  -- what is known after more parts
  record Seen (z : Parts) (numbers : Bool) (first : First) (next : ℕ) : Type 0 where
    numbers_are : z.numbers ≡ numbers
    first_is : z.first ≡ first
    next_is : z.next.at ≡ next

  mutual
    unfolding list_e depth_e InE size_e count_e write_e arity_of gather no_parts with_part judged type_by fits_by ty type_e fits numeric numerics require or_else types_of is_boolean

    pub expr_typed : (e : Expr) (left at : ℕ) (rest : List Record) → from t at ≡ list_e e rest → depth_e e ≤ left → InE v e
        → typed_at t params slots left at ≡ answer_e slots at e
    expr_typed (num n) left at rest is d i = (judges (rec 20 n 0 0) left at is d).0
    expr_typed tru left at rest is d i = (judges (rec 21 0 0 0) left at is d).0
    expr_typed fls left at rest is d i = (judges (rec 22 0 0 0) left at is d).0
    expr_typed (var x) left at rest is d i = (judges (rec 23 x 0 0) left at is d).0 ∙ answer_path (sym (boolean_ty (has slots x))) refl refl
    expr_typed (get a x) left at rest is d i =
        let (j, on) = judges (rec 24 a 0 0) left at is (omega arith) in
        let q : at + 1 + size_e x ≡ at + suc (size_e x) = omega arith in
        let Γ = types_of slots in
        j ∙ rw (expr_typed x (left - 1) (at + 1) rest on (omega arith) i.1) (answer_path refl (own at (numeric_is (ty Γ x)) (type_e Γ (at + 1) x)) q)
    expr_typed (lnot x) left at rest is d i =
        let (j, on) = judges (rec 25 0 0 0) left at is (omega arith) in
        let q : at + 1 + size_e x ≡ at + suc (size_e x) = omega arith in
        let Γ = types_of slots in
        j ∙ rw (expr_typed x (left - 1) (at + 1) rest on (omega arith) i) (answer_path refl (own at (boolean_is (ty Γ x)) (type_e Γ (at + 1) x)) q)
    expr_typed (bnot x) left at rest is d i =
        let (j, on) = judges (rec 26 0 0 0) left at is (omega arith) in
        let q : at + 1 + size_e x ≡ at + suc (size_e x) = omega arith in
        let Γ = types_of slots in
        j ∙ rw (expr_typed x (left - 1) (at + 1) rest on (omega arith) i) (answer_path refl (own at (numeric_is (ty Γ x)) (type_e Γ (at + 1) x)) q)
    expr_typed (bin o l r) left at rest is d i =
        let (j, on) = judges (rec 27 (code o) 0 0) left at is (omega arith) in
        let q : at + 1 + size_e l + size_e r ≡ at + suc (size_e l + size_e r) = omega arith in
        let Γ = types_of slots in
        let first = expr_typed l (left - 1) (at + 1) (list_e r rest) on (omega arith) i.0 in
        let second = expr_typed r (left - 1) (at + 1 + size_e l) rest (past_e t l (at + 1) on) (omega arith) i.1 in
        j ∙ rw (first, second) (answer_path (op_type o (ty Γ l)) (own at (op_fits o (ty Γ l) (ty Γ r)) (or_else (type_e Γ (at + 1) l) (type_e Γ (at + 1 + size_e l) r))) q)
    expr_typed (call f xs) left at rest is d i =
        let (j, on) = judges (rec 28 f 0 0) left at is (omega arith) in
        let q : at + 1 + size_es xs ≡ at + suc (size_es xs) = omega arith in
        let count : params_of params f ≡ count_e xs = params_by params f (ltb f 16) sized refl ∙ ap (λ (ps : List ℕ). get_or ps f 0) (sym known) ∙ sym i.1 in
        let seen = exprs_typed xs (left - 1) (at + 1) (no_parts (at + 1)) rest on (omega arith) i.2 refl in
        j ∙ rw count (answer_path refl (rw (seen.numbers_are, seen.first_is) refl) (seen.next_is ∙ q))

    exprs_typed : (xs : Exprs) (left at : ℕ) (z : Parts) (rest : List Record) → from t at ≡ list_es xs rest → depth_es xs ≤ left → InEs v xs → z.next.at ≡ at
        → Seen (gather (typed_at t params slots left) (count_e xs) z) (z.numbers && numerics (types_of slots) xs) (or_else z.first (type_es (types_of slots) at xs)) (at + size_es xs)
    exprs_typed none left at z rest is d i here =
        let q : at ≡ at + 0 = omega arith in
        record { numbers_are = and_true z.numbers; first_is = or_clean z.first; next_is = here ∙ q }
    exprs_typed (more x xs) left at z rest is d i here =
        let Γ = types_of slots in
        let y = typed_at t params slots left z.next.at in
        let e : y ≡ answer_e slots at x = ap (typed_at t params slots left) here ∙ expr_typed x left at (list_es xs rest) is (omega arith) i.0 in
        let r = exprs_typed xs left (at + size_e x) (with_part z y) rest (past_e t x at is) (omega arith) i.1 (ap (λ (w : Typed). w.next.at) e) in
        let q : at + size_e x + size_es xs ≡ at + (size_e x + size_es xs) = omega arith in
        let plain = ap (λ (w : Typed). not w.boolean) e ∙ numeric_is (ty Γ x) in
        record {
          numbers_are = r.numbers_are ∙ ap (λ (b : Bool). (z.numbers && b) && numerics Γ xs) plain ∙ and_assoc z.numbers (is_numeric (ty Γ x)) (numerics Γ xs);
          first_is = r.first_is ∙ ap (λ (w : Typed). or_else (or_else z.first w.first) (type_es Γ (at + size_e x) xs)) e ∙ or_assoc z.first (type_e Γ at x) (type_es Γ (at + size_e x) xs);
          next_is = r.next_is ∙ q;
        }
