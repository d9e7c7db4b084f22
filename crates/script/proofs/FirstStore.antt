-- Stores (11) stop at the first record at fault: the fault depends on no record after the one that it names. Assumes nothing.
use mathlib.Core.Path.{◌≡◌}
use mathlib.Core.List.{List, [], ◌∷◌}
use Prim.Native.Nat.{ℕ, suc, ◌+◌, ◌≤◌, ◌<◌}
use native.Mathlib.Omega.{arith}
use lib.ListN.{length, take}
use Rattle.script.specs.Tree.{Stmt, skip, seq, def, set, put, for, if, return, Stmts, done, next, Func, Program, size_e, size_s, size_f}
use Rattle.script.specs.Stage.{first_func}
use Rattle.script.specs.Stores.{store_s, store_ss, helpers, stores}
use Rattle.script.specs.Written.{listing, Within}
use Rattle.script.proofs.Firsts.{not_clean, or_from, or_like}
use Rattle.script.proofs.Beginning.{LikeS, past_s, same_s_lem, like_seq, like_def, like_set, like_put, like_for, like_if, like_return, LikeSs, past_ss, like_done, like_next}
use Rattle.script.proofs.Agreeing.{LikeFs, past_fs, like_end, like_func, begin_alike}
use Rattle.word.proofs.Refused.{refused_place}
use Rattle.word.specs.Refusals.{refuse}

module _ {number place : ℕ} where
  -- ---- the fault lies in the tree that has it
  mutual
    unfolding store_s

    store_from : (x : Stmt) (at i : ℕ) → i ≤ at → store_s at x ≡ refuse number place → i ≤ place
    store_from skip at i l e = not_clean e
    store_from (seq xs) at i l e = stores_from xs (at + 1) i (omega arith) e
    store_from (def x y) at i l e = not_clean e
    store_from (set x y) at i l e = not_clean e
    store_from (put a x y) at i l e = omega (arith, refused_place e)
    store_from (for x lo hi s) at i l e = store_from s (at + 1) i (omega arith) e
    store_from (if c s t) at i l e =
        or_from (store_s (at + 1 + size_e c) s) (λ o. store_from s (at + 1 + size_e c) i (omega arith) o)
        (λ o. store_from t (at + 1 + size_e c + size_s s) i (omega arith) o) e
    store_from (return y) at i l e = not_clean e

    stores_from : (xs : Stmts) (at i : ℕ) → i ≤ at → store_ss at xs ≡ refuse number place → i ≤ place
    stores_from done at i l e = not_clean e
    stores_from (next x xs) at i l e = or_from (store_s at x) (λ o. store_from x at i l o) (λ o. stores_from xs (at + size_s x) i (omega arith) o) e

  helpers_from : (fs : List Func) (at i : ℕ) → i ≤ at → helpers at fs ≡ refuse number place → i ≤ place
  unfolding helpers
  helpers_from [] at i l e = not_clean e
  helpers_from (f ∷ []) at i l e = not_clean e
  helpers_from (f ∷ g ∷ fs) at i l e =
      or_from (store_s (at + 1) f.body) (store_from f.body (at + 1) i (omega arith)) (λ o. helpers_from (g ∷ fs) (at + size_f f) i (omega arith) o) e

  -- ---- trees that are the same up to k have the same fault before it
  module _ {k : ℕ} (m : place < k) where
    mutual
      unfolding store_s

      store_like : {at : ℕ} {x y : Stmt} → LikeS k at x y → store_s at x ≡ refuse number place → store_s at y ≡ refuse number place
      store_like (past_s {at} {x} l) e = absurd (omega (arith, store_from x at k l e))
      store_like same_s_lem e = e
      store_like (like_seq h) e = stores_like h e
      store_like (like_def h) e = not_clean e
      store_like (like_set h) e = not_clean e
      store_like (like_put h same t) e = e
      store_like (like_for h) e = store_like h e
      store_like (like_if {at} {c} {d} {s} {r} {s₁ = t} h same_c h₁ same_s h₂) e =
          let i = at + 1 + size_e c in
          let far = or_from {at = i} (store_s i s) (store_from s i i (omega arith)) (store_from t (i + size_s s) i (omega arith)) e in
          let z : c ≡ d = same_c (omega arith) in
          rw (← z)
          (or_like (store_s i s) (λ o. store_like h₁ o)
          (λ p o.
          let later = store_from t (i + size_s s) (i + size_s s) (omega arith) o in
          let y : s ≡ r = same_s (omega arith) in
          rw (← y) (p, store_like h₂ o)) e)
      store_like (like_return h) e = not_clean e

      stores_like : {at : ℕ} {xs ys : Stmts} → LikeSs k at xs ys → store_ss at xs ≡ refuse number place → store_ss at ys ≡ refuse number place
      stores_like (past_ss {at} {xs} l) e = absurd (omega (arith, stores_from xs at k l e))
      stores_like like_done e = e
      stores_like (like_next {at} {x} {y} {xs} {ys} h same t) e =
          or_like (store_s at x) (λ o. store_like h o)
          (λ c o.
          let far = stores_from xs (at + size_s x) (at + size_s x) (omega arith) o in
          let z : x ≡ y = same (omega arith) in
          rw (← z) (c, stores_like t o)) e

    -- a function, and those after it
    helper_like : (at : ℕ) (f g : Func) (fs gs : List Func) → length fs ≡ length gs → LikeS k (at + 1) f.body g.body → (at + size_f f ≤ k → f ≡ g)
        → (helpers (at + size_f f) fs ≡ refuse number place → helpers (at + size_f f) gs ≡ refuse number place)
        → helpers at (f ∷ fs) ≡ refuse number place → helpers at (g ∷ gs) ≡ refuse number place
    unfolding helpers
    helper_like at f g [] [] n body same rest e = e
    helper_like at f g [] (y ∷ gs) n body same rest e = absurd (omega arith)
    helper_like at f g (x ∷ fs) [] n body same rest e = absurd (omega arith)
    helper_like at f g (x ∷ fs) (y ∷ gs) n body same rest e =
        or_like (store_s (at + 1) f.body) (store_like body)
        (λ c o.
        let far = helpers_from (x ∷ fs) (at + size_f f) (at + size_f f) (omega arith) o in
        let z : f ≡ g = same (omega arith) in
        rw (← z) (c, rest o)) e

    helpers_like : {at : ℕ} {fs gs : List Func} → LikeFs k at fs gs → length fs ≡ length gs
        → helpers at fs ≡ refuse number place → helpers at gs ≡ refuse number place
    helpers_like (past_fs {at} {fs} l) n e = absurd (omega (arith, helpers_from fs at k l e))
    helpers_like like_end n e = e
    helpers_like (like_func {at} {f} {g} {fs} {gs} params body same rest) n e =
        let n₁ : length fs ≡ length gs = omega arith in
        helper_like at f g fs gs n₁ body same (λ o. helpers_like rest n₁ o) e

-- a store outside the exposed function: each program whose table has the same records up to that PUT has it
pub stores_first : (p q : Program) (number place : ℕ) → Within p → Within q → stores p ≡ refuse number place
    → take (suc place) (listing q) ≡ take (suc place) (listing p) → stores q ≡ refuse number place
unfolding stores first_func
stores_first p q number place h g e same =
    let a = begin_alike (suc place) p q (omega arith) h g same in
    rw (← a.arrays) (helpers_like (omega arith) a.funcs a.count e)
