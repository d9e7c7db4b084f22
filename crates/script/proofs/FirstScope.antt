-- Scope (8, 9) stops at the first record at fault: a fault depends on no record after the one that it names. Assumes nothing.
use mathlib.Core.Path.{◌≡◌}
use mathlib.Core.List.{List, [], ◌∷◌}
use Prim.Native.Nat.{ℕ, suc, ◌+◌, ◌≤◌, ◌<◌}
use native.Mathlib.Omega.{arith}
use lib.ListN.{take}
use Rattle.word.specs.Slots.{Seen, hidden, fixed, defined, Scope}
use Rattle.script.specs.Tree.{Expr, num, tru, fls, var, get, lnot, bnot, bin, call, Exprs, none, more, Stmt, skip, seq, def, set, put, for, if, return, Stmts, done, next, Func, Program, size_e, size_s, size_f}
use Rattle.script.specs.Stage.{stops, onward, each_func, first_func, over_program}
use Rattle.script.specs.Scope.{Names, readable, settable, scope_e, scope_es, declare, close, scope_s, scope_ss, parameters, scope_f}
use Rattle.script.specs.Written.{listing, Within}
use Rattle.script.proofs.Firsts.{not_clean, not_goes, or_from, after_from, onward_from, refuse_from, close_stops, ended_stops, or_like, after_like, onward_like, refuse_like, close_like, ended_like}
use Rattle.script.proofs.Beginning.{LikeE, past_e, same_e_lem, like_get, like_lnot, like_bnot, like_bin, like_call, LikeEs, past_es, like_none, like_more, LikeS, past_s, same_s_lem, like_seq, like_def, like_set, like_put, like_for, like_if, like_return, LikeSs, past_ss, like_done, like_next}
use Rattle.script.proofs.Agreeing.{LikeFs, past_fs, like_end, like_func, begin_alike}
use Rattle.word.proofs.Refused.{refused_place}
use Rattle.word.specs.Refusals.{refuse}

module _ {number place : ℕ} where
  -- ---- a fault lies in the tree that has it
  readable_from : (z : Seen) (at : ℕ) → readable z at ≡ refuse number place → at ≤ place
  unfolding readable
  readable_from hidden at e = omega (arith, refused_place e)
  readable_from fixed at e = not_clean e
  readable_from defined at e = not_clean e

  settable_from : (z : Seen) (at : ℕ) → settable z at ≡ refuse number place → at ≤ place
  unfolding settable
  settable_from hidden at e = omega (arith, refused_place e)
  settable_from fixed at e = omega (arith, refused_place e)
  settable_from defined at e = not_clean e

  mutual
    unfolding scope_e

    scope_e_from : (x : Expr) (S : Scope) (at i : ℕ) → i ≤ at → scope_e S at x ≡ refuse number place → i ≤ place
    scope_e_from (num v) S at i l e = not_clean e
    scope_e_from tru S at i l e = not_clean e
    scope_e_from fls S at i l e = not_clean e
    scope_e_from (var x) S at i l e = omega (arith, readable_from (S x) at e)
    scope_e_from (get a x) S at i l e = scope_e_from x S (at + 1) i (omega arith) e
    scope_e_from (lnot x) S at i l e = scope_e_from x S (at + 1) i (omega arith) e
    scope_e_from (bnot x) S at i l e = scope_e_from x S (at + 1) i (omega arith) e
    scope_e_from (bin o x y) S at i l e =
        or_from (scope_e S (at + 1) x) (λ f. scope_e_from x S (at + 1) i (omega arith) f) (λ f. scope_e_from y S (at + 1 + size_e x) i (omega arith) f) e
    scope_e_from (call f xs) S at i l e = scope_es_from xs S (at + 1) i (omega arith) e

    scope_es_from : (xs : Exprs) (S : Scope) (at i : ℕ) → i ≤ at → scope_es S at xs ≡ refuse number place → i ≤ place
    scope_es_from none S at i l e = not_clean e
    scope_es_from (more x xs) S at i l e = or_from (scope_e S at x) (λ f. scope_e_from x S at i l f) (λ f. scope_es_from xs S (at + size_e x) i (omega arith) f) e

  mutual
    unfolding scope_s

    scope_s_from : (x : Stmt) (N : Names) (at i : ℕ) → i ≤ at → scope_s N at x ≡ stops number place → i ≤ place
    scope_s_from skip N at i l e = not_goes e
    scope_s_from (seq xs) N at i l e = scope_ss_from xs N (at + 1) i (omega arith) e
    scope_s_from (def x y) N at i l e =
        let p = refuse_from (N.declared x) 8 at (after_from (scope_e N.seen (at + 1) y) (scope_e_from y N.seen (at + 1) at (omega arith)) not_goes) e in
        omega arith
    scope_s_from (set x y) N at i l e =
        let p = after_from (settable (N.seen x) at) (settable_from (N.seen x) at)
        (after_from (scope_e N.seen (at + 1) y) (scope_e_from y N.seen (at + 1) at (omega arith)) not_goes) e in
        omega arith
    scope_s_from (put a x y) N at i l e =
        after_from (scope_e N.seen (at + 1) x) (scope_e_from x N.seen (at + 1) i (omega arith))
        (after_from (scope_e N.seen (at + 1 + size_e x) y) (scope_e_from y N.seen (at + 1 + size_e x) i (omega arith)) not_goes) e
    scope_s_from (for x lo hi s) N at i l e =
        let p = refuse_from (N.declared x) 8 at (λ f. scope_s_from s (declare N x fixed) (at + 1) at (omega arith) (close_stops N _ f)) e in
        omega arith
    scope_s_from (if c s t) N at i l e =
        after_from (scope_e N.seen (at + 1) c) (scope_e_from c N.seen (at + 1) i (omega arith))
        (onward_from (close N (scope_s N (at + 1 + size_e c) s)) (λ f. scope_s_from s N (at + 1 + size_e c) i (omega arith) (close_stops N _ f))
        (λ M f. scope_s_from t M (at + 1 + size_e c + size_s s) i (omega arith) (close_stops M _ f))) e
    scope_s_from (return y) N at i l e = after_from (scope_e N.seen (at + 1) y) (scope_e_from y N.seen (at + 1) i (omega arith)) not_goes e

    scope_ss_from : (xs : Stmts) (N : Names) (at i : ℕ) → i ≤ at → scope_ss N at xs ≡ stops number place → i ≤ place
    scope_ss_from done N at i l e = not_goes e
    scope_ss_from (next x xs) N at i l e = onward_from (scope_s N at x) (λ f. scope_s_from x N at i l f) (λ M f. scope_ss_from xs M (at + size_s x) i (omega arith) f) e

  -- ---- trees that are the same up to k have the same fault before it
  module _ {k : ℕ} (m : place < k) where
    mutual
      unfolding scope_e

      scope_e_like : {at : ℕ} {x y : Expr} → LikeE k at x y → (S : Scope) → scope_e S at x ≡ refuse number place → scope_e S at y ≡ refuse number place
      scope_e_like (past_e {at} {x} l) S e = absurd (omega (arith, scope_e_from x S at k l e))
      scope_e_like same_e_lem S e = e
      scope_e_like (like_get h) S e = scope_e_like h S e
      scope_e_like (like_lnot h) S e = scope_e_like h S e
      scope_e_like (like_bnot h) S e = scope_e_like h S e
      scope_e_like (like_bin {at} {l = x} {r = y} h same t) S e =
          or_like (scope_e S (at + 1) x) (λ f. scope_e_like h S f)
          (λ c f.
          let z = same (omega (arith, scope_e_from y S (at + 1 + size_e x) (at + 1 + size_e x) (omega arith) f)) in
          rw (← z) (c, scope_e_like t S f)) e
      scope_e_like (like_call h) S e = scope_es_like h S e

      scope_es_like : {at : ℕ} {xs ys : Exprs} → LikeEs k at xs ys → (S : Scope) → scope_es S at xs ≡ refuse number place → scope_es S at ys ≡ refuse number place
      scope_es_like (past_es {at} {xs} l) S e = absurd (omega (arith, scope_es_from xs S at k l e))
      scope_es_like like_none S e = e
      scope_es_like (like_more {at} {x} {xs = xs} h same t) S e =
          or_like (scope_e S at x) (λ f. scope_e_like h S f)
          (λ c f.
          let z = same (omega (arith, scope_es_from xs S (at + size_e x) (at + size_e x) (omega arith) f)) in
          rw (← z) (c, scope_es_like t S f)) e

    -- both branches of an IF
    branches_from : (N : Names) (i : ℕ) (s t : Stmt)
        → onward (close N (scope_s N i s)) (λ M. close M (scope_s M (i + size_s s) t)) ≡ stops number place → i ≤ place
    branches_from N i s t e =
        onward_from (close N (scope_s N i s)) (λ o. scope_s_from s N i i (omega arith) (close_stops N _ o))
        (λ M o. scope_s_from t M (i + size_s s) i (omega arith) (close_stops M _ o)) e

    branches_like : (N : Names) (i : ℕ) (s t r u : Stmt) → (scope_s N i s ≡ stops number place → scope_s N i r ≡ stops number place)
        → (i + size_s s ≤ k → s ≡ r) → ((M : Names) → scope_s M (i + size_s s) t ≡ stops number place → scope_s M (i + size_s s) u ≡ stops number place)
        → onward (close N (scope_s N i s)) (λ M. close M (scope_s M (i + size_s s) t)) ≡ stops number place
        → onward (close N (scope_s N i r)) (λ M. close M (scope_s M (i + size_s r) u)) ≡ stops number place
    branches_like N i s t r u first same second e =
        onward_like (close N (scope_s N i s)) {g = λ M. close M (scope_s M (i + size_s s) t)} {h = λ M. close M (scope_s M (i + size_s r) u)}
        (close_like N (scope_s N i s) first)
        (λ M c o.
        let j = i + size_s s in
        let far = scope_s_from t M j j (omega arith) (close_stops M _ o) in
        let z : s ≡ r = same (omega arith) in
        rw (← z) (c, close_like M (scope_s M j t) (second M) o)) e

    mutual
      unfolding scope_s

      scope_s_like : {at : ℕ} {x y : Stmt} → LikeS k at x y → (N : Names) → scope_s N at x ≡ stops number place → scope_s N at y ≡ stops number place
      scope_s_like (past_s {at} {x} l) N e = absurd (omega (arith, scope_s_from x N at k l e))
      scope_s_like same_s_lem N e = e
      scope_s_like (like_seq h) N e = scope_ss_like h N e
      scope_s_like (like_def {at} {x} {e = y} h) N e =
          refuse_like (N.declared x) 8 at (after_like (scope_e N.seen (at + 1) y) (scope_e_like h N.seen) (λ c f. not_goes f)) e
      scope_s_like (like_set {at} {x} {e = y} h) N e =
          after_like (settable (N.seen x) at) (λ f. f)
          (λ c f. (c, after_like (scope_e N.seen (at + 1) y) (scope_e_like h N.seen) (λ c f. not_goes f) f)) e
      scope_s_like (like_put {at} {i = x} {e = y} h same t) N e =
          after_like (scope_e N.seen (at + 1) x) (scope_e_like h N.seen)
          (λ c f.
          let i = at + 1 + size_e x in
          let z = same (omega (arith, after_from (scope_e N.seen i y) (scope_e_from y N.seen i i (omega arith)) not_goes f)) in
          rw (← z) (c, after_like (scope_e N.seen i y) (scope_e_like t N.seen) (λ c f. not_goes f) f)) e
      scope_s_like (like_for {at} {x} {s = s} h) N e =
          refuse_like (N.declared x) 8 at (close_like N (scope_s (declare N x fixed) (at + 1) s) (λ f. scope_s_like h (declare N x fixed) f)) e
      scope_s_like (like_if {at} {c} {s = s} {r = r} {s₁ = t} {r₁ = u} h same_c h₁ same_s h₂) N e =
          after_like (scope_e N.seen (at + 1) c) (scope_e_like h N.seen)
          (λ p f.
          let i = at + 1 + size_e c in
          let z = same_c (omega (arith, branches_from N i s t f)) in
          rw (← z) (p, branches_like N i s t r u (λ o. scope_s_like h₁ N o) same_s (λ M o. scope_s_like h₂ M o) f)) e
      scope_s_like (like_return {at} {e = y} h) N e = after_like (scope_e N.seen (at + 1) y) (scope_e_like h N.seen) (λ c f. not_goes f) e

      scope_ss_like : {at : ℕ} {xs ys : Stmts} → LikeSs k at xs ys → (N : Names) → scope_ss N at xs ≡ stops number place → scope_ss N at ys ≡ stops number place
      scope_ss_like (past_ss {at} {xs} l) N e = absurd (omega (arith, scope_ss_from xs N at k l e))
      scope_ss_like like_done N e = e
      scope_ss_like (like_next {at} {x} {xs = xs} h same t) N e =
          onward_like (scope_s N at x) (λ f. scope_s_like h N f)
          (λ M c f.
          let z = same (omega (arith, scope_ss_from xs M (at + size_s x) (at + size_s x) (omega arith) f)) in
          rw (← z) (c, scope_ss_like t M f)) e

  -- ---- functions
  func_from : (f : Func) (at i : ℕ) → i ≤ at → scope_f at f ≡ refuse number place → i ≤ place
  unfolding scope_f
  func_from f at i l e = scope_s_from f.body (parameters f.params) (at + 1) i (omega arith) (ended_stops _ e)

  funcs_from : (fs : List Func) (at i : ℕ) → i ≤ at → each_func scope_f at fs ≡ refuse number place → i ≤ place
  unfolding each_func
  funcs_from [] at i l e = not_clean e
  funcs_from (f ∷ fs) at i l e = or_from (scope_f at f) (func_from f at i l) (λ o. funcs_from fs (at + size_f f) i (omega arith) o) e

  funcs_like : {k at : ℕ} {fs gs : List Func} → place < k → LikeFs k at fs gs
      → each_func scope_f at fs ≡ refuse number place → each_func scope_f at gs ≡ refuse number place
  unfolding each_func scope_f
  funcs_like {k} m (past_fs {at} {fs} l) e = absurd (omega (arith, funcs_from fs at k l e))
  funcs_like m like_end e = e
  funcs_like m (like_func {at} {f} {g} {fs} {gs} params body same rest) e =
      or_like (scope_f at f)
      (λ o. rw (← params) (ended_like (scope_s (parameters f.params) (at + 1) f.body) (scope_s_like m body (parameters f.params)) o))
      (λ c o.
      let far = funcs_from fs (at + size_f f) (at + size_f f) (omega arith) o in
      let z : f ≡ g = same (omega arith) in
      rw (← z) (c, funcs_like m rest o)) e

-- a fault of scope at a record: each program whose table has the same records up to that one has it, with the same number
pub scope_first : (p q : Program) (number place : ℕ) → Within p → Within q → over_program scope_f p ≡ refuse number place
    → take (suc place) (listing q) ≡ take (suc place) (listing p) → over_program scope_f q ≡ refuse number place
unfolding over_program first_func
scope_first p q number place h g e same =
    let a = begin_alike (suc place) p q (omega arith) h g same in
    rw (← a.arrays) (funcs_like (omega arith) a.funcs e)
