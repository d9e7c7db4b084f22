-- The code of types over a table's words and `type_s` over the tree that stands there go together; so `typed` says of a table that was read what the
-- stage says of its tree. Assumes nothing.
use Prim.Native.Nat.{ℕ, suc, ◌+◌, ◌-◌, ◌≤◌, ◌<◌}
use native.Mathlib.Numerals.{add-one}
use native.Mathlib.Omega.{arith}
use mathlib.Core.Path.{◌≡◌, refl, sym, ap, ◌∙◌, fun_ext}
use mathlib.Core.Bool.{Bool, true, false, cond, not, ◌&&◌}
use mathlib.Core.List.{List, ◌∷◌}
use lib.Dec.{eqb}
use lib.ListN.{length, set as write, length-set}
use Rattle.word.specs.Records.{rec}
use Rattle.word.specs.Slots.{here, upd}
use Rattle.word.specs.Types.{Ty, is_numeric, alike}
use Rattle.word.specs.Sets.{has, put}
use Rattle.word.specs.declared.Record.{Record}
use Rattle.word.proofs.Memory.{Words}
use Rattle.word.proofs.Members.{has_put, has_none}
use Rattle.script.specs.Tree.{Expr, Stmt, skip, seq, def, set, put as store, for, if, return, Stmts, done, next, Func, Program, size_e, size_s, size_ss, size_f}
use Rattle.script.specs.Table.{write_s}
use Rattle.script.specs.Parse.{parsed, entered, passed, read_table}
use Rattle.script.specs.Written.{count_s, list_e, list_s, list_ss, list_funcs, depth_s, depth_ss, head_of, InS, Inside, Insides, InFunc}
use Rattle.script.specs.Stage.{or_else, Walked, goes, after, onward, over_program, stops}
use Rattle.script.specs.Types.{Types, ty, numeric, require, type_e, suits, type_s, type_ss, numbers, type_f}
use Rattle.scoping.specs.Passes.{turn, At, come, closing, noted, expressions_of, statements_of, nested, walk, then_first}
use Rattle.stages.specs.Typed.{ty_of, is_boolean, types_of, no_parts, with_part, gather, suits_by, settled, judged_s, typed_at, typing, Known, typed_func, nobody, typed, typing_at, kept}
use Rattle.script.specs.declared.Env.{Env}
use Rattle.script.specs.Stage.{First}
use Rattle.script.proofs.Leading.{from}
use Rattle.scoping.proofs.Past.{past_e, past_s}
use Rattle.scoping.proofs.Together.{Together, both_go, go_on, go_after, go_to, go_as, go_first, onward_goes, onward_assoc, onward_after, after_after, enters, program_staged}
use Rattle.stages.proofs.TypeExprs.{ty_boolean, numeric_is, boolean_is, answer_e, expr_typed}

-- ---- the set as types
settled_by : (e b : Bool) (τ : Ty) → ty_of (here e (is_boolean τ) b) ≡ here e τ (ty_of b)
unfolding here
settled_by true b τ = ty_boolean τ
settled_by false b τ = refl

-- a slot put into the set has that type
settles : (slots x : ℕ) (τ : Ty) → x < 32 → types_of (put slots x (is_boolean τ)) ≡ upd (types_of slots) x τ
unfolding types_of upd
settles slots x τ s = fun_ext λ y. ap (λ (g : ℕ → Bool). ty_of (g y)) (has_put slots x (is_boolean τ) s) ∙ settled_by (eqb y x) (has slots y) τ

no_booleans : types_of 0 ≡ numbers
unfolding types_of numbers ty_of
no_booleans = fun_ext λ x. ap ty_of (has_none x)

alike_by : (b : Bool) (τ : Ty) → cond b (is_boolean τ) (not (is_boolean τ)) ≡ alike (ty_of b) τ
unfolding ty_of
alike_by true τ = boolean_is τ
alike_by false τ = numeric_is τ

required : {A : Type 0} (at : ℕ) {b c : Bool} → b ≡ c → (w : Walked A) → after (require c at) w ≡ after (require b at) w
required at e w = ap (λ (d : Bool). after (require d at) w) (sym e)

closing_kept : (kind slots : ℕ) (w : Walked (At ℕ)) → closing (kept kind slots) w ≡ w
unfolding closing
closing_kept kind slots (goes b) = refl
closing_kept kind slots (stops number place) = refl

module _ (t params : List ℕ) (v : Env) (few : v.slots ≤ 32) (sized : length params ≡ 16) (known : v.params ≡ params) where
  abbrev Goes : ℕ → Walked (At ℕ) → Walked Types → Type 0
  Goes end w r = Together (λ b. types_of b) end w r

  -- ---- a record and its expressions
  one_typed : (slots at : ℕ) (e : Expr) (rest : List Record) → from t at ≡ list_e e rest → InS v e → typed_at t params slots 16 at ≡ answer_e slots at e
  one_typed slots at e rest is i = expr_typed t params slots v sized known e 16 at rest is i.1 i.0

  enters_kept : (slots : ℕ) (x : Record) (left at : ℕ) {rest : List Record} → from t at ≡ x ∷ rest → 1 ≤ left
      → (walk (typing t params) t left at slots ≡ nested (walk (typing t params) t (left - 1)) (λ z. z) (statements_of x) (typing_at t params slots at (at + 1) x)) × (from t (at + 1) ≡ rest)
  unfolding typing turn
  enters_kept slots x left at is some =
      let (w, on) = enters (typing t params) t slots x left at is some in
      (w ∙ ap (λ (g : Walked (At ℕ) → Walked (At ℕ)). nested (walk (typing t params) t (left - 1)) g (statements_of x) (typing_at t params slots at (at + 1) x)) (fun_ext λ u. closing_kept x.kind slots u), on)

  mutual
    unfolding list_s size_s depth_s Inside count_s write_s type_s suits numeric types_of typing_at statements_of expressions_of nested gather judged_s suits_by settled no_parts with_part or_else onward after require

    stmt_goes : (s : Stmt) (left at slots : ℕ) (rest : List Record) → from t at ≡ list_s s rest → depth_s s ≤ left → Inside v s
        → Goes (at + size_s s) (walk (typing t params) t left at slots) (type_s (types_of slots) at s)
    stmt_goes skip left at slots rest is d i =
        let (w, on) = enters_kept slots (rec 30 0 0 0) left at is d in
        go_as w refl (both_go {a = slots} refl)
    stmt_goes (seq ss) left at slots rest is d i =
        let (w, on) = enters_kept slots (rec 31 (count_s ss) 0 0) left at is (omega arith) in
        let q : at + 1 + size_ss ss ≡ at + suc (size_ss ss) = omega arith in
        go_to q (go_as w refl (stmts_go ss (left - 1) (at + 1) rest on (omega arith) i.2 (both_go {a = slots} refl)))
    stmt_goes (def x e) left at slots rest is d i =
        let (w, on) = enters_kept slots (rec 32 x 0 0) left at is d in
        let q : at + 1 + size_e e ≡ at + suc (size_e e) = omega arith in
        let small : x < 32 = omega (arith, i.0) in
        let Γ = types_of slots in
        go_to q (go_as (w ∙ rw (one_typed slots (at + 1) e rest on i.1) refl) refl (go_after (type_e Γ (at + 1) e) (both_go (settles slots x (ty Γ e) small))))
    stmt_goes (set x e) left at slots rest is d i =
        let (w, on) = enters_kept slots (rec 33 x 0 0) left at is d in
        let q : at + 1 + size_e e ≡ at + suc (size_e e) = omega arith in
        let Γ = types_of slots in
        let own = cond (has slots x) (is_boolean (ty Γ e)) (not (is_boolean (ty Γ e))) in
        go_to q
        (go_as (w ∙ rw (one_typed slots (at + 1) e rest on i.1) refl) (required at (alike_by (has slots x) (ty Γ e)) _)
        (go_after (require own at) (go_after (type_e Γ (at + 1) e) (both_go {a = slots} refl))))
    stmt_goes (store b k e) left at slots rest is d i =
        let (w, on) = enters_kept slots (rec 34 b 0 0) left at is d in
        let m = at + 1 + size_e k in
        let q : m + size_e e ≡ at + suc (size_e k + size_e e) = omega arith in
        let Γ = types_of slots in
        let first = type_e Γ (at + 1) k in
        let second = type_e Γ m e in
        let own = not (is_boolean (ty Γ k)) && not (is_boolean (ty Γ e)) in
        let plain : own ≡ is_numeric (ty Γ k) && is_numeric (ty Γ e) = rw (numeric_is (ty Γ k), numeric_is (ty Γ e)) refl in
        let read = one_typed slots (at + 1) k (list_e e rest) on i.1 in
        let read_on = one_typed slots m e rest (past_e t k (at + 1) on) i.2 in
        go_to q
        (go_as (w ∙ rw (read, read_on) refl) (required at plain _ ∙ ap (after (require own at)) (after_after first second (goes Γ)))
        (go_after (require own at) (go_after (or_else first second) (both_go {a = slots} refl))))
    stmt_goes (for x l r s) left at slots rest is d i =
        let (w, on) = enters_kept slots (rec 35 x l r) left at is (omega arith) in
        let q : at + 1 + size_s s ≡ at + suc (size_s s) = omega arith in
        go_to q (go_as w refl (stmt_goes s (left - 1) (at + 1) slots rest on (omega arith) i.3))
    stmt_goes (if c s u) left at slots rest is d i =
        let (w, on) = enters_kept slots (rec 36 0 0 0) left at is (omega arith) in
        let m = at + 1 + size_e c in
        let k = m + size_s s in
        let q : k + size_s u ≡ at + suc (size_e c + (size_s s + size_s u)) = omega arith in
        let Γ = types_of slots in
        let own = require (is_boolean (ty Γ c)) at in
        let first = type_e Γ (at + 1) c in
        let start : Walked (At ℕ) = come m slots in
        let f : At ℕ → Walked (At ℕ) = λ b. walk (typing t params) t (left - 1) b.at b.state in
        let begun = ap (λ (z : Walked (At ℕ)). onward z f) (onward_after own (after first start) f ∙ ap (after own) (onward_after first start f)) in
        let both = begun ∙ onward_after own (after first (onward start f)) f ∙ ap (after own) (onward_after first (onward start f) f) in
        let then = past_e t c (at + 1) on in
        let other = past_s t s m then in
        let deep : depth_s u ≤ left - 1 = omega arith in
        let branch = stmt_goes s (left - 1) m slots (list_s u rest) then (omega arith) i.1 in
        go_to q
        (go_as (w ∙ rw (one_typed slots (at + 1) c (list_s s (list_s u rest)) on i.0) refl ∙ both) (required at (boolean_is (ty Γ c)) _)
        (go_after own (go_after first (go_on (k + size_s u) f (λ Δ. type_s Δ k u) branch (λ b. stmt_goes u (left - 1) k b rest other deep i.2)))))
    stmt_goes (return e) left at slots rest is d i =
        let (w, on) = enters_kept slots (rec 37 0 0 0) left at is d in
        let q : at + 1 + size_e e ≡ at + suc (size_e e) = omega arith in
        let Γ = types_of slots in
        go_to q
        (go_as (w ∙ rw (one_typed slots (at + 1) e rest on i) refl) (required at (numeric_is (ty Γ e)) _)
        (go_after (require (not (is_boolean (ty Γ e))) at) (go_after (type_e Γ (at + 1) e) (both_go {a = slots} refl))))

    stmts_go : (ss : Stmts) (left at : ℕ) (rest : List Record) {w : Walked (At ℕ)} {r : Walked Types}
        → from t at ≡ list_ss ss rest → depth_ss ss ≤ left → Insides v ss → Goes at w r
        → Goes (at + size_ss ss) (nested (walk (typing t params) t left) (λ z. z) (count_s ss) w) (onward r (λ Γ. type_ss Γ at ss))
    stmts_go done left at rest {r} is d i g =
        let q : at ≡ at + 0 = omega arith in
        go_to q (go_as refl (onward_goes r) g)
    stmts_go (next s ss) left at rest {r} is d i g =
        let q : at + size_s s + size_ss ss ≡ at + (size_s s + size_ss ss) = omega arith in
        let deep : depth_s s ≤ left = omega arith in
        let turn = go_on (at + size_s s) (λ b. walk (typing t params) t left b.at b.state) (λ Γ. type_s Γ at s) g (λ b. stmt_goes s left at b (list_ss ss rest) is deep i.0) in
        go_to q
        (go_as refl (sym (onward_assoc r (λ Γ. type_s Γ at s) (λ Γ. type_ss Γ (at + size_s s) ss)))
        (stmts_go ss left (at + size_s s) rest (past_s t s at is) (omega arith) i.1 turn))

-- ---- functions
-- what is noted is what the reading of the table noted
record Knows (v : Env) (m : Known) : Type 0 where
  func_is : v.func ≡ m.func
  params_are : v.params ≡ m.params
  sized : length m.params ≡ 16

noted_is : (params : List ℕ) (f n : ℕ) → noted params f n ≡ write params f n
unfolding noted
noted_is params f n = refl

knows_on : (t : List ℕ) (v : Env) (m : Known) (f : Func) → Knows v m → Knows (passed v (head_of f)) ((typed_func t).note m (rec 3 f.params f.slots 0))
unfolding passed typed_func
knows_on t v m f k =
    let is = noted_is m.params m.func f.params in
    record {
      func_is = ap suc k.func_is ∙ sym (add-one m.func);
      params_are = rw (k.func_is, k.params_are) (sym is);
      sized = ap length is ∙ length-set m.params m.func f.params ∙ k.sized;
    }

func_goes : (t : List ℕ) (v : Env) (m : Known) (f : Func) (at : ℕ) (fs : List Func) (then : ℕ → First) → Knows v m → InFunc v f
    → from t (at + 1) ≡ list_s f.body (list_funcs fs)
    → (then_first ((typed_func t).body m (rec 3 f.params f.slots 0) (at + 1)) then ≡ or_else (type_f at f) (then (at + size_f f))) × (from t (at + size_f f) ≡ list_funcs fs)
unfolding typed_func type_f size_f entered
func_goes t v m f at fs then k i is =
    let q : at + suc (size_s f.body) ≡ at + 1 + size_s f.body = omega arith in
    let body = stmt_goes t m.params (entered v (head_of f)) i.slots k.sized k.params_are f.body 16 (at + 1) 0 (list_funcs fs) is i.deep i.body in
    rw q (rw (← no_booleans) (go_first then body), past_s t f.body (at + 1) is)

-- THE LAW: over a table that was read, the code's stage says what `type_f` says of its tree's functions
pub typed_is : (t : List ℕ) → Words t → (p : Program) (i : ℕ) → read_table t ≡ parsed p i → typed t ≡ over_program type_f p
unfolding typed
typed_is t w p i e =
    program_staged (typed_func t) type_f t Knows (knows_on t) (func_goes t) w p i e nobody (record { func_is = refl; params_are = refl; sized = refl })
