-- The code of scope over a table's words and `scope_s` over the tree that stands there go together; so `scoped` says of a table that was read what the
-- stage says of its tree. Assumes nothing.
use Prim.Native.Nat.{ℕ, suc, ◌+◌, ◌-◌, ◌≤◌, ◌<◌}
use native.Mathlib.Omega.{arith}
use mathlib.Core.Path.{◌≡◌, refl, sym, ap, ◌∙◌, fun_ext}
use mathlib.Core.Bool.{Bool, true, false, not}
use mathlib.Core.List.{List}
use lib.Dec.{eqb, ltb}
use Rattle.word.specs.Records.{rec}
use Rattle.word.specs.Slots.{here, upd, hidden, fixed, defined, Scope, parameter, begin}
use Rattle.word.specs.Sets.{has}
use Rattle.word.specs.declared.Record.{Record}
use Rattle.word.proofs.Memory.{Words}
use Rattle.word.proofs.Members.{has_put, has_none, has_below}
use Rattle.script.specs.Tree.{Expr, Stmt, skip, seq, def, set, put as store, for, if, return, Stmts, done, next, Func, Program, size_e, size_s, size_ss, size_f}
use Rattle.script.specs.Table.{write_s}
use Rattle.script.specs.Parse.{parsed, entered, read_table}
use Rattle.script.specs.Written.{count_s, list_e, list_s, list_ss, list_funcs, depth_s, depth_ss, head_of, Inside, Insides, InFunc}
use Rattle.script.specs.Stage.{or_else, Walked, goes, stops, after, onward, refuse_if, over_program}
use Rattle.script.specs.Scope.{Names, settable, scope_e, declare, close, scope_s, scope_ss, parameters, scope_f}
use Rattle.scoping.specs.Passes.{turn, At, come, statements_of, closing, nested, walk, then_first}
use Rattle.scoping.specs.Scoped.{seen_of, names_of, declarable, own, declares, shown, closed_by, entering, scoping, parameters_of, scoped_func, scoped}
use Rattle.script.specs.declared.Env.{Env}
use Rattle.script.specs.Stage.{First}
use Rattle.scoping.specs.declared.scope.Slots.{Slots}
use Rattle.script.proofs.Leading.{from}
use Rattle.scoping.proofs.Past.{past_e, past_s}
use Rattle.scoping.proofs.Seeking.{seek_expr, Halts, halts_stmt, halts_stmts, halts_funcs}
use Rattle.scoping.proofs.Together.{Together, both_go, both_stop, go_on, go_after, go_to, go_as, go_first, onward_goes, onward_assoc, onward_after, enters, program_staged}

-- ---- the sets as names
names_path : {s s' : Scope} {d d' : ℕ → Bool} → s ≡ s' → d ≡ d' → ◌≡◌ {A = Names} (record { seen = s; declared = d }) (record { seen = s'; declared = d' })
names_path e f = λ i. record { seen = e i; declared = f i }

seen_by : (e d f loop : Bool) → here (here e (not loop) d) defined (here (here e loop f) fixed hidden) ≡ here e (here loop fixed defined) (here d defined (here f fixed hidden))
unfolding here
seen_by true d f true = refl
seen_by true d f false = refl
seen_by false d f loop = refl

-- a slot declared in the sets is declared
declares_is : (a : Slots) (x : ℕ) (loop : Bool) → x < 32 → names_of (declares a x loop) ≡ declare (names_of a) x (here loop fixed defined)
unfolding names_of declares declare seen_of upd
declares_is a x loop s =
    names_path
    (fun_ext λ y. rw (ap (λ (g : ℕ → Bool). g y) (has_put a.defined x (not loop) s), ap (λ (g : ℕ → Bool). g y) (has_put a.fixed x loop s)) (seen_by (eqb y x) (has a.defined y) (has a.fixed y) loop))
    (has_put a.declared x true s)

param_by : (b : Bool) → here false defined (here b fixed hidden) ≡ parameter b
unfolding here parameter
param_by true = refl
param_by false = refl

parameters_is : (p : ℕ) → p ≤ 32 → names_of (parameters_of p) ≡ parameters p
unfolding names_of parameters_of parameters seen_of begin
parameters_is p s =
    names_path
    (fun_ext λ x. rw (has_none x, has_below p x s) (param_by (ltb x p)))
    (fun_ext λ x. has_below p x s)

closed_is : (kind : ℕ) (a b : Slots) → eqb kind 31 ≡ false → names_of (closed_by kind a b) ≡ record { seen = (names_of a).seen; declared = (names_of b).declared }
unfolding names_of closed_by seen_of
closed_is kind a b e = rw e refl

close_together : {end : ℕ} {w : Walked (At Slots)} {r : Walked Names} (kind : ℕ) (a : Slots) → eqb kind 31 ≡ false
    → Together (λ b. names_of b) end w r → Together (λ b. names_of b) end (closing (closed_by kind a) w) (close (names_of a) r)
unfolding closing close
close_together kind a k (both_go {a = b} e) = both_go (closed_is kind a b k ∙ ap (λ (n : Names). record { seen = (names_of a).seen; declared = n.declared }) e)
close_together kind a k both_stop = both_stop

-- ---- a record's own fault, and its expressions
refused_by : {A : Type 0} (b : Bool) (at : ℕ) (w : Walked A) → refuse_if b 8 at w ≡ after (declarable b at) w
unfolding refuse_if declarable after
refused_by true at w = refl
refused_by false at w = refl

abbrev scope_of : Slots → Scope
scope_of a = λ y. seen_of a y

module _ (t : List ℕ) (a : Slots) (at : ℕ) (x : Record) (rest : List Record) (h : Halts rest) where
  -- no expression
  enter_none : from t (at + 1) ≡ rest → entering t a at (at + 1) x ≡ after (own a x at) (come (at + 1) (shown a x))
  unfolding entering onward
  enter_none is = rw (is, h a (at + 1)) refl

  enter_one : (e : Expr) → from t (at + 1) ≡ list_e e rest
      → entering t a at (at + 1) x ≡ after (own a x at) (after (scope_e (scope_of a) (at + 1) e) (come (at + 1 + size_e e) (shown a x)))
  unfolding entering onward
  enter_one e is =
      rw (is, seek_expr e a (at + 1) rest, h a (at + 1 + size_e e)) (ap (after (own a x at)) (onward_after (scope_e (scope_of a) (at + 1) e) (goes (at + 1 + size_e e)) _))

  enter_two : (d e : Expr) → from t (at + 1) ≡ list_e d (list_e e rest)
      → entering t a at (at + 1) x ≡ after (own a x at) (after (scope_e (scope_of a) (at + 1) d) (after (scope_e (scope_of a) (at + 1 + size_e d) e) (come (at + 1 + size_e d + size_e e) (shown a x))))
  unfolding entering onward
  enter_two d e is =
      let first = scope_e (scope_of a) (at + 1) d in
      let second = scope_e (scope_of a) (at + 1 + size_e d) e in
      let end = at + 1 + size_e d + size_e e in
      rw (is, seek_expr d a (at + 1) (list_e e rest), seek_expr e a (at + 1 + size_e d) rest, h a end)
      (ap (after (own a x at)) (onward_after first (after second (goes end)) _ ∙ ap (after first) (onward_after second (goes end) _)))

-- ---- statements
-- what is visible outside is the same for both branches
close_by : (k n : Names) → k.seen ≡ n.seen → (w : Walked Names) → close k w ≡ close n w
unfolding close
close_by k n e (goes m) = ap (λ (s : Scope). goes (record { seen = s; declared = m.declared })) e
close_by k n e (stops number place) = refl

close_same : (n : Names) (r : Walked Names) (g : Names → Walked Names) → onward (close n r) (λ k. close k (g k)) ≡ onward (close n r) (λ k. close n (g k))
unfolding close onward
close_same n (goes m) g = close_by (record { seen = n.seen; declared = m.declared }) n refl (g (record { seen = n.seen; declared = m.declared }))
close_same n (stops number place) g = refl

-- SEQ is no scope
leaves_seq : (a : Slots) (w : Walked (At Slots)) → closing (closed_by 31 a) w ≡ w
unfolding closing closed_by
leaves_seq a (goes b) = refl
leaves_seq a (stops number place) = refl

module _ (t : List ℕ) (v : Env) (few : v.slots ≤ 32) where
  abbrev Goes : ℕ → Walked (At Slots) → Walked Names → Type 0
  Goes end w r = Together (λ b. names_of b) end w r

  mutual
    unfolding list_s size_s depth_s Inside count_s write_s scope_s names_of scoping turn statements_of nested own shown here onward after

    stmt_goes : (s : Stmt) (left at : ℕ) (a : Slots) (rest : List Record) → from t at ≡ list_s s rest → depth_s s ≤ left → Inside v s → Halts rest
        → Goes (at + size_s s) (walk (scoping t) t left at a) (scope_s (names_of a) at s)
    stmt_goes skip left at a rest is d i h =
        let (w, on) = enters (scoping t) t a (rec 30 0 0 0) left at is d in
        go_as (w ∙ enter_none t a at (rec 30 0 0 0) rest h on) refl (both_go refl)
    stmt_goes (seq ss) left at a rest is d i h =
        let x = rec 31 (count_s ss) 0 0 in
        let (w, on) = enters (scoping t) t a x left at is (omega arith) in
        let e = w ∙ ap (nested (walk (scoping t) t (left - 1)) (closing (closed_by 31 a)) (count_s ss)) (enter_none t a at x (list_ss ss rest) (halts_stmts ss rest h) on) in
        let q : at + 1 + size_ss ss ≡ at + suc (size_ss ss) = omega arith in
        go_to q (go_as e refl (stmts_go ss (left - 1) (at + 1) rest (closing (closed_by 31 a)) on (omega arith) i.2 h (both_go refl) (leaves_seq a)))
    stmt_goes (def x e) left at a rest is d i h =
        let (w, on) = enters (scoping t) t a (rec 32 x 0 0) left at is d in
        let q : at + 1 + size_e e ≡ at + suc (size_e e) = omega arith in
        let small : x < 32 = omega (arith, i.0) in
        go_to q
        (go_as (w ∙ enter_one t a at (rec 32 x 0 0) rest h e on) (refused_by (has a.declared x) at _)
        (go_after (declarable (has a.declared x) at) (go_after (scope_e (scope_of a) (at + 1) e) (both_go (declares_is a x false small)))))
    stmt_goes (set x e) left at a rest is d i h =
        let (w, on) = enters (scoping t) t a (rec 33 x 0 0) left at is d in
        let q : at + 1 + size_e e ≡ at + suc (size_e e) = omega arith in
        go_to q (go_as (w ∙ enter_one t a at (rec 33 x 0 0) rest h e on) refl (go_after (settable (seen_of a x) at) (go_after (scope_e (scope_of a) (at + 1) e) (both_go {a = a} refl))))
    stmt_goes (store b k e) left at a rest is d i h =
        let (w, on) = enters (scoping t) t a (rec 34 b 0 0) left at is d in
        let q : at + 1 + size_e k + size_e e ≡ at + suc (size_e k + size_e e) = omega arith in
        go_to q (go_as (w ∙ enter_two t a at (rec 34 b 0 0) rest h k e on) refl (go_after (scope_e (scope_of a) (at + 1) k) (go_after (scope_e (scope_of a) (at + 1 + size_e k) e) (both_go {a = a} refl))))
    stmt_goes (for x l r s) left at a rest is d i h =
        let y = rec 35 x l r in
        let (w, on) = enters (scoping t) t a y left at is (omega arith) in
        let f : At Slots → Walked (At Slots) = λ b. closing (closed_by 35 a) (walk (scoping t) t (left - 1) b.at b.state) in
        let e = w ∙ ap (λ (z : Walked (At Slots)). onward z f) (enter_none t a at y (list_s s rest) (halts_stmt s rest) on) ∙ onward_after (declarable (has a.declared x) at) _ f in
        let q : at + 1 + size_s s ≡ at + suc (size_s s) = omega arith in
        let small : x < 32 = omega (arith, i.0) in
        let inside = stmt_goes s (left - 1) (at + 1) (declares a x true) rest on (omega arith) i.3 h in
        go_to q
        (go_as e (refused_by (has a.declared x) at _)
        (go_after (declarable (has a.declared x) at) (go_as refl (ap (λ (n : Names). close (names_of a) (scope_s n (at + 1) s)) (sym (declares_is a x true small))) (close_together 35 a refl inside))))
    stmt_goes (if c s u) left at a rest is d i h =
        let y = rec 36 0 0 0 in
        let m = at + 1 + size_e c in
        let k = m + size_s s in
        let (w, on) = enters (scoping t) t a y left at is (omega arith) in
        let f : At Slots → Walked (At Slots) = λ b. closing (closed_by 36 a) (walk (scoping t) t (left - 1) b.at b.state) in
        let cond = scope_e (scope_of a) (at + 1) c in
        let e = w ∙ ap (λ (z : Walked (At Slots)). onward (onward z f) f) (enter_one t a at y (list_s s (list_s u rest)) (halts_stmt s (list_s u rest)) c on) ∙ ap (λ (z : Walked (At Slots)). onward z f) (onward_after cond _ f) ∙ onward_after cond _ f in
        let q : k + size_s u ≡ at + suc (size_e c + (size_s s + size_s u)) = omega arith in
        let then = past_e t c (at + 1) on in
        let first = stmt_goes s (left - 1) m a (list_s u rest) then (omega arith) i.1 (halts_stmt u rest) in
        let other = past_s t s m then in
        let deep : depth_s u ≤ left - 1 = omega arith in
        go_to q
        (go_as e (ap (after cond) (close_same (names_of a) (scope_s (names_of a) m s) (λ n. scope_s n k u)))
        (go_after cond (go_on (k + size_s u) f (λ n. close (names_of a) (scope_s n k u)) (close_together 36 a refl first) (λ b. close_together 36 a refl (stmt_goes u (left - 1) k b rest other deep i.2 h)))))
    stmt_goes (return e) left at a rest is d i h =
        let (w, on) = enters (scoping t) t a (rec 37 0 0 0) left at is d in
        let q : at + 1 + size_e e ≡ at + suc (size_e e) = omega arith in
        go_to q (go_as (w ∙ enter_one t a at (rec 37 0 0 0) rest h e on) refl (go_after (scope_e (scope_of a) (at + 1) e) (both_go {a = a} refl)))

    stmts_go : (ss : Stmts) (left at : ℕ) (rest : List Record) {w : Walked (At Slots)} {r : Walked Names} (leave : Walked (At Slots) → Walked (At Slots))
        → from t at ≡ list_ss ss rest → depth_ss ss ≤ left → Insides v ss → Halts rest → Goes at w r
        → ((u : Walked (At Slots)) → leave u ≡ u)
        → Goes (at + size_ss ss) (nested (walk (scoping t) t left) leave (count_s ss) w) (onward r (λ m. scope_ss m at ss))
    stmts_go done left at rest {r} leave is d i h g same =
        let q : at ≡ at + 0 = omega arith in
        go_to q (go_as refl (onward_goes r) g)
    stmts_go (next s ss) left at rest {r} leave is d i h g same =
        let q : at + size_s s + size_ss ss ≡ at + (size_s s + size_ss ss) = omega arith in
        let deep : depth_s s ≤ left = omega arith in
        let turn = go_on (at + size_s s) (λ b. leave (walk (scoping t) t left b.at b.state)) (λ m. scope_s m at s) g (λ b. go_as (same _) refl (stmt_goes s left at b (list_ss ss rest) is deep i.0 (halts_stmts ss rest h))) in
        go_to q
        (go_as refl (sym (onward_assoc r (λ m. scope_s m at s) (λ m. scope_ss m (at + size_s s) ss)))
        (stmts_go ss left (at + size_s s) rest leave (past_s t s at is) (omega arith) i.1 h turn same))

-- ---- functions
func_goes : (t : List ℕ) (v : Env) (m : Unit {0}) (f : Func) (at : ℕ) (fs : List Func) (next : ℕ → First) → Unit {0} → InFunc v f
    → from t (at + 1) ≡ list_s f.body (list_funcs fs)
    → (then_first ((scoped_func t).body m (rec 3 f.params f.slots 0) (at + 1)) next ≡ or_else (scope_f at f) (next (at + size_f f))) × (from t (at + size_f f) ≡ list_funcs fs)
unfolding scoped_func scope_f size_f entered
func_goes t v m f at fs then k i is =
    let q : at + suc (size_s f.body) ≡ at + 1 + size_s f.body = omega arith in
    let few : f.params ≤ 32 = omega (arith, i.few) in
    let body = stmt_goes t (entered v (head_of f)) i.slots f.body 16 (at + 1) (parameters_of f.params) (list_funcs fs) is i.deep i.body (halts_funcs fs) in
    rw q (rw (← (parameters_is f.params few)) (go_first then body), past_s t f.body (at + 1) is)

-- THE LAW: over a table that was read, the code's stage says what `scope_f` says of its tree's functions
pub scoped_is : (t : List ℕ) → Words t → (p : Program) (i : ℕ) → read_table t ≡ parsed p i → scoped t ≡ over_program scope_f p
unfolding scoped
scoped_is t w p i e = program_staged (scoped_func t) scope_f t (λ v m. Unit {0}) (λ v m f k. tt) (func_goes t) w p i e tt tt
