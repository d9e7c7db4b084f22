-- The core program that comes out is sound: its calls go to lower functions with as many arguments as those have parameters, and its slots keep the
-- slot rule (29). Assumes nothing.
use mathlib.Core.Path.{◌≡◌, refl, sym, ap, ◌∙◌, fun_ext, subst}
use mathlib.Core.Bool.{true, false}
use mathlib.Core.List.{List, [], ◌∷◌, map}
use Prim.Native.Nat.{ℕ, zero, suc, ◌+◌, ◌≤◌, ◌<◌}
use native.Mathlib.Nat.{not-suc-le-zero}
use native.Mathlib.Omega.{arith}
use native.Mathlib.Decide.{ℕ_discrete}
use lib.ListN.{length}
use Rattle.word.specs.Slots.{upd, Seen, hidden, fixed, defined, Scope, begin}
use Rattle.word.proofs.Memory.{upd_same, upd_other}
use Rattle.script.specs.Tree.{Expr, num, tru, fls, var, get, lnot, bnot, bin, call, Exprs, none, more, Stmt, skip, seq, def, set, put, for, if, return, Stmts, done, next, Func, Program, size_e, size_s, size_f}
use Rattle.script.specs.Parse.{entered}
use Rattle.script.specs.Written.{count_e, InE, InEs, Inside, Insides, head_of, InFunc, Within}
use Rattle.script.specs.Stage.{goes, each_func, first_func, over_program}
use Rattle.script.specs.Scope.{Names, readable as seeable, settable as writable, scope_e, scope_es, declare, scope_s, scope_ss, scope_f}
use Rattle.script.specs.declared.Env.{Env}
use Rattle.script.proofs.Walks.{faulty, both_clean, after_goes, onward_goes, refuse_goes, ended_clean}
use Rattle.script.proofs.Scoping.{closed, close_goes}
use Rattle.script.proofs.Judged.{params_at}
use Rattle.script.proofs.Placing.{Places, Ordered, a_func, ordered}
use Rattle.tape.specs.Core.{CExpr, VAR, GET, CStmt}
use Rattle.tape.specs.Faults.{readable, settable, definable, unnamed}
use Rattle.tape.proofs.Sound.{arguments, after_s, SoundE, SoundEs, SoundS, SoundF, SoundFrom, the_last, one_more, params_at as paramsIn, Sound}
use Rattle.tape.proofs.Staying.{was_hidden}
use Rattle.translation.specs.Translate.{layout, EXT, EXTs, context, masking, merge, STT, STTs, FDEFT, translate}
use Rattle.translation.proofs.Relation.{rval, rnset, condition}
use Rattle.translation.proofs.Standing.{Stands, stands_declare, stands_deeper, stands_shallower, stands_closed, stands_loop, begin_definable, stands_begin}
use Rattle.std.specs.Prelude.{Ok}

seen_readable : (z : Seen) (at : ℕ) → seeable z at ≡ Ok tt → readable z ≡ true
unfolding seeable readable
seen_readable hidden at e = absurd (faulty e)
seen_readable fixed at e = refl
seen_readable defined at e = refl

set_defined : (z : Seen) (at : ℕ) → writable z at ≡ Ok tt → defined ≡ z
unfolding writable
set_defined hidden at e = absurd (faulty e)
set_defined fixed at e = absurd (faulty e)
set_defined defined at e = refl

arguments_count : (es : Exprs) → arguments (EXTs es) ≡ count_e es
unfolding arguments EXT count_e
arguments_count none = refl
arguments_count (more e es) = ap suc (arguments_count es)

module _ (π : ℕ → ℕ) (k : ℕ) (v : Env) (𝓟 : Places π k v) where
  abbrev n : ℕ
  n = v.slots

  -- ---- expressions
  module _ {d : ℕ} {N : Names} {D : Scope} (st : Stands n d N D) where
    mutual
      unfolding scope_e InE EXT SoundE

      expr_sound : (e : Expr) (at : ℕ) → scope_e N.seen at e ≡ Ok tt → InE v e → SoundE π k D (EXT e)
      expr_sound (num x) at s i = tt
      expr_sound tru at s i = tt
      expr_sound fls at s i = tt
      expr_sound (var x) at s i = let r = seen_readable (N.seen x) at s in ap readable (st.same x r) ∙ r
      expr_sound (get a j) at s i = expr_sound j (at + 1) s i.1
      expr_sound (lnot e) at s i = expr_sound e (at + 1) s i
      expr_sound (bnot e) at s i = expr_sound e (at + 1) s i
      expr_sound (bin o l r) at s i =
          let b = both_clean _ s in
          (expr_sound l (at + 1) b.0 i.0, expr_sound r (at + 1 + size_e l) b.1 i.1)
      expr_sound (call f es) at s i =
          let h : f < k = rw 𝓟.func at i.0 in
          (h, arguments_count es ∙ i.1 ∙ 𝓟.arity f h, exprs_sound es (at + 1) s i.2)

      exprs_sound : (es : Exprs) (at : ℕ) → scope_es N.seen at es ≡ Ok tt → InEs v es → SoundEs π k D (EXTs es)
      exprs_sound none at s i = tt
      exprs_sound (more e es) at s i =
          let b = both_clean _ s in
          (expr_sound e at b.0 i.0, exprs_sound es (at + size_e e) b.1 i.1)

    -- C, M and a masked value
    defined_readable : {x : ℕ} → D x ≡ defined → readable (D x) ≡ true
    unfolding readable
    defined_readable e = ap readable e

    defined_settable : {x : ℕ} → D x ≡ defined → settable (D x) ≡ true
    unfolding settable
    defined_settable e = ap settable e

    context_sound : (j : ℕ) → j ≤ d → SoundE π k D (context (layout n) j)
    unfolding context SoundE
    context_sound zero l = tt
    context_sound (suc j) l = (defined_readable (st.round j l), context_sound j (omega arith))

    masking_sound : SoundE π k D (masking (layout n) d)
    unfolding masking SoundE
    masking_sound = (context_sound d (omega arith), defined_readable st.unset)

    merge_sound : (e old : CExpr) → SoundE π k D e → SoundE π k D old → SoundE π k D (merge (layout n) d e old)
    unfolding merge SoundE
    merge_sound e old h g = ((h, masking_sound), (g, masking_sound))

  -- ---- statements
  record Holds (d : ℕ) (D : Scope) (s : CStmt) (M : Names) : Type 0 where
    sound : SoundS π k D s
    stands : Stands n d M (after_s D s)

  ends_as : {d : ℕ} {D : Scope} {s : CStmt} {M O : Names} → M ≡ O → Holds d D s O → Holds d D s M
  ends_as e h = rw e h

  goes_as : {d : ℕ} {D : Scope} {s : CStmt} {M O : Names} → goes O ≡ goes M → Holds d D s O → Holds d D s M
  goes_as {M} {O} e h = let q : M ≡ O = cc in ends_as q h

  module _ {d : ℕ} {N : Names} {D : Scope} (st : Stands n d N D) where
    def_holds : (x : ℕ) (e : Expr) (at : ℕ) → x < n → N.declared x ≡ false → scope_e N.seen at e ≡ Ok tt → InE v e
        → Holds d D (STT (layout n) d (def x e)) (declare N x defined)
    unfolding STT SoundS after_s definable
    def_holds x e at l u s i =
        record { sound = (ap definable (st.unnamed x l u), expr_sound st e at s i); stands = stands_declare defined l st }

    set_holds : (x : ℕ) (e : Expr) (at : ℕ) → writable (N.seen x) at ≡ Ok tt → scope_e N.seen (at + 1) e ≡ Ok tt → InE v e
        → Holds d D (STT (layout n) d (set x e)) N
    unfolding STT SoundS SoundE after_s readable
    set_holds x e at w s i =
        let q = set_defined (N.seen x) at w in
        let z : D x ≡ defined = st.same x (sym (ap readable q)) ∙ sym q in
        record {
          sound = (defined_settable st z, merge_sound st (EXT e) (VAR x) (expr_sound st e (at + 1) s i) (defined_readable st z));
          stands = st;
        }

    put_holds : (a : ℕ) (j e : Expr) (at : ℕ) → scope_e N.seen at j ≡ Ok tt → scope_e N.seen (at + size_e j) e ≡ Ok tt → InE v j → InE v e
        → Holds d D (STT (layout n) d (put a j e)) N
    unfolding STT SoundS SoundE after_s
    put_holds a j e at s t i h =
        let index = expr_sound st j at s i in
        record { sound = (index, merge_sound st (EXT e) (GET a (EXT j)) (expr_sound st e (at + size_e j) t h) index); stands = st }

    return_holds : (e : Expr) (at : ℕ) → scope_e N.seen at e ≡ Ok tt → InE v e → Holds d D (STT (layout n) d (return e)) N
    unfolding STT SoundS SoundE after_s
    return_holds e at s i =
        record {
          sound = (
            (defined_settable st st.value, ((expr_sound st e at s i, masking_sound st), defined_readable st st.value)),
            (defined_settable st st.unset, (defined_readable st st.unset, context_sound st d (omega arith))),
          );
          stands = st;
        }

    -- a loop, from its body
    for_holds : (x q r : ℕ) (s : Stmt) (M : Names) → x < n → q ≤ r → N.declared x ≡ false
        → Holds d (upd D x fixed) (STT (layout n) d s) M → Holds d D (STT (layout n) d (for x q r s)) (closed N M)
    unfolding STT SoundS after_s unnamed
    for_holds x q r s M l h u w =
        record { sound = (h, ap unnamed (st.unnamed x l u), w.sound); stands = stands_loop M st (λ y g e. outside y (ℕ_discrete y x) (inside y g e)) }
      where
        inside : (y : ℕ) → y < n → M.declared y ≡ false → upd D x fixed y ≡ hidden
        inside y g e = was_hidden π k (STT (layout n) d s) (upd D x fixed) w.sound y (w.stands.unnamed y g e)

        outside : (y : ℕ) → Dec (y ≡ x) → upd D x fixed y ≡ hidden → D y ≡ hidden
        outside y (yes e) h = let z : ◌≡◌ {A = ℕ} 0 1 = cc (upd_same D x fixed, ap (upd D x fixed) e) in absurd (omega arith)
        outside y (no e) h = sym (upd_other D x fixed y e) ∙ h

    -- an IF, from its branches: the first stands where the condition is DEF'd, the second where the first has ended
    if_holds : (c : Expr) (at : ℕ) (s t : Stmt) (M O : Names) → scope_e N.seen at c ≡ Ok tt → InE v c
        → Holds (suc d) (upd D (condition n d) defined) (STT (layout n) (suc d) s) M
        → Holds (suc d) (after_s (upd D (condition n d) defined) (STT (layout n) (suc d) s)) (STT (layout n) (suc d) t) O
        → Holds d D (STT (layout n) d (if c s t)) (closed N O)
    unfolding STT SoundS SoundE after_s
    if_holds c at s t M O h i w u =
        let D₁ = upd D (condition n d) defined in
        let D₂ = after_s D₁ (STT (layout n) (suc d) s) in
        let st₁ = stands_deeper st in
        let st₂ : Stands n (suc d) (closed N M) D₂ = stands_closed M π k (STT (layout n) (suc d) s) w.sound st₁ w.stands in
        let c₂ = st₂.round d (omega arith) in
        record {
          sound = ((st.free d, expr_sound st c at h i), (w.sound, ((defined_settable st₂ c₂, defined_readable st₂ c₂), u.sound)));
          stands = stands_shallower (stands_closed O π k (STT (layout n) (suc d) t) u.sound st₂ u.stands);
        }

  -- the end of a first branch
  first_ends : (s : Stmt) {d : ℕ} {N M : Names} {D : Scope} → Stands n d N D → Holds d D (STT (layout n) d s) M
      → Stands n d (closed N M) (after_s D (STT (layout n) d s))
  first_ends s {d} {M} st w = stands_closed M π k (STT (layout n) d s) w.sound st w.stands

  mutual
    unfolding STT SoundS after_s scope_s Inside

    holds : (s : Stmt) (d at : ℕ) {N M : Names} {D : Scope} → Stands n d N D → scope_s N at s ≡ goes M → Inside v s → Holds d D (STT (layout n) d s) M
    holds skip d at st h i = goes_as h (record { sound = tt; stands = st })
    holds (seq ss) d at st h i = hold ss d (at + 1) st h i.2
    holds (def x e) d at {N} st h i =
        let a = refuse_goes (N.declared x) 8 at h in
        let b = after_goes _ a.1 in
        goes_as b.1 (def_holds st x e (at + 1) i.0 a.0 b.0 i.1.0)
    holds (set x e) d at st h i =
        let a = after_goes _ h in
        let b = after_goes _ a.1 in
        goes_as b.1 (set_holds st x e at a.0 b.0 i.1.0)
    holds (put a j e) d at st h i =
        let b = after_goes _ h in
        let c = after_goes _ b.1 in
        goes_as c.1 (put_holds st a j e (at + 1) b.0 c.0 i.1.0 i.2.0)
    holds (for x q r s) d at {N} st h i =
        let a = refuse_goes (N.declared x) 8 at h in
        let c = close_goes N _ a.1 in
        ends_as c.2 (for_holds st x q r s c.0 i.0 i.1 a.0 (holds s d (at + 1) (stands_declare fixed i.0 st) c.1 i.3))
    holds (if c s t) d at {N} st h i =
        let p = after_goes _ h in
        let q = onward_goes _ p.1 in
        let first = close_goes N _ q.1 in
        let second = close_goes q.0 _ q.2 in
        let st₁ = stands_deeper st in
        let w = holds s (suc d) (at + 1 + size_e c) st₁ first.1 i.1 in
        let again = subst (λ (z : Names). scope_s z (at + 1 + size_e c + size_s s) t ≡ goes second.0) first.2 second.1 in
        let u = holds t (suc d) (at + 1 + size_e c + size_s s) (first_ends s st₁ w) again i.2 in
        ends_as (second.2 ∙ ap (λ (z : Names). closed z second.0) first.2) (if_holds st c (at + 1) s t first.0 second.0 p.0 i.0.0 w u)
    holds (return e) d at st h i =
        let b = after_goes _ h in
        goes_as b.1 (return_holds st e (at + 1) b.0 i.0)

    hold : (ss : Stmts) (d at : ℕ) {N M : Names} {D : Scope} → Stands n d N D → scope_ss N at ss ≡ goes M → Insides v ss → Holds d D (STTs (layout n) d ss) M
    hold done d at st h i = goes_as h (record { sound = tt; stands = st })
    hold (next s ss) d at st h i =
        let p = onward_goes _ h in
        let w = holds s d at st p.1 i.0 in
        let u = hold ss d (at + size_s s) w.stands p.2 i.1 in
        record { sound = (w.sound, u.sound); stands = u.stands }

-- ---- functions and the program
func_sound : (π : ℕ → ℕ) (k at : ℕ) (f : Func) {v : Env} → Places π k (entered v (head_of f)) → InFunc v f → scope_f at f ≡ Ok tt → SoundF π k (FDEFT f)
unfolding scope_f entered FDEFT SoundS SoundE after_s readable
func_sound π k at f {v} 𝓟 h s =
    let a = ended_clean _ s in
    let p = f.params in
    let n = f.slots in
    let room : p ≤ n = h.room in
    let w = holds π k (entered v (head_of f)) 𝓟 f.body 0 (at + 1) (stands_begin n p room) a.1 h.body in
    let free : definable (upd (begin p) (rval n) defined (rnset n)) ≡ true =
    ap definable (upd_other (begin p) (rval n) defined (rnset n) (omega arith)) ∙ begin_definable p (rnset n) (omega arith) in
    record {
      body = ((begin_definable p n room, tt), ((free, tt), w.sound));
      ret = ap readable w.stands.value;
    }

funcs_sound : (π : ℕ → ℕ) (k at : ℕ) (fs : List Func) → 1 ≤ length fs → Ordered π k fs → each_func scope_f at fs ≡ Ok tt → SoundFrom π k (map FDEFT fs)
unfolding each_func
funcs_sound π k at [] l o s = absurd (not-suc-le-zero l)
funcs_sound π k at (f ∷ []) l (a_func 𝓟 i o) s = the_last (func_sound π k at f 𝓟 i (both_clean _ s).0)
funcs_sound π k at (f ∷ g ∷ fs) l (a_func 𝓟 i o) s =
    let a = both_clean _ s in
    one_more (func_sound π k at f 𝓟 i a.0) (funcs_sound π (suc k) (at + size_f f) (g ∷ fs) (omega arith) o a.1)

-- the translation keeps the parameters
params_same : (fs : List Func) (f : ℕ) → params_at fs f ≡ paramsIn (map FDEFT fs) f
unfolding params_at paramsIn FDEFT
params_same [] f = refl
params_same (g ∷ gs) zero = refl
params_same (g ∷ gs) (suc f) = params_same gs f

-- what comes out of a script in whose scope no fault was found
pub translated_sound : (p : Program) → Within p → over_program scope_f p ≡ Ok tt → Sound (translate p)
unfolding over_program translate
translated_sound p w s =
    subst (λ (π : ℕ → ℕ). SoundFrom π 0 (map FDEFT p.funcs)) (fun_ext (params_same p.funcs))
    (funcs_sound (params_at p.funcs) 0 (first_func p) p.funcs w.some (ordered p w) s)
