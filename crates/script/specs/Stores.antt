-- Stores: refusal 11, the first PUT outside the exposed function, which is the last. Assumes nothing: these are definitions.
use Rattle.std.specs.Prelude.{ℕ, ◌+◌, List, [], ◌∷◌}
use Rattle.script.specs.Tree.{Stmt, skip, seq, def, set, put, for, if, return, Stmts, done, next, Func, Program, size_e, size_s, size_f}
use Rattle.script.specs.Stage.{clean, fault, or_else, first_func}
use Rattle.script.specs.Stage.{First}

unfoldable mutual
  pub store_s : ℕ → Stmt → First
  store_s at skip = clean
  store_s at (seq ss) = store_ss (at + 1) ss
  store_s at (def x e) = clean
  store_s at (set x e) = clean
  store_s at (put a i e) = fault 11 at
  store_s at (for x q r s) = store_s (at + 1) s
  store_s at (if c s t) = or_else (store_s (at + 1 + size_e c) s) (store_s (at + 1 + size_e c + size_s s) t)
  store_s at (return e) = clean

  pub store_ss : ℕ → Stmts → First
  store_ss at done = clean
  store_ss at (next s ss) = or_else (store_s at s) (store_ss (at + size_s s) ss)

-- the functions from the one at record `at` on
unfoldable pub helpers : ℕ → List Func → First
helpers at [] = clean
helpers at (f ∷ []) = clean
helpers at (f ∷ g ∷ fs) = or_else (store_s (at + 1) f.body) (helpers (at + size_f f) (g ∷ fs))

unfoldable pub stores : Program → First
stores p = helpers (first_func p) p.funcs
