-- What a script means, read plainly (01, "Plain meaning"). Bytes go through expressions too, operands left to right: a call may be one day store.
-- A call goes only to a lower function, so the functions' meanings are made in order. Assumes nothing: these are definitions.
use Rattle.std.specs.Prelude.{ℕ, zero, suc, ◌-◌, Bool, true, false, List, [], ◌∷◌}
use Rattle.word.specs.Value.{TRUE, FALSE, truth, flip, negate, op}
use Rattle.word.specs.Slots.{Slots, upd, fresh}
use Rattle.word.specs.Bytes.{fetch, store}
use Rattle.script.specs.Tree.{Expr, num, tru, fls, var, get, lnot, bnot, bin, call, Exprs, none, more, Stmt, skip, seq, def, set, put, for, if, return, Stmts, done, next, Func, Program}

-- a function's meaning: arguments and bytes to value and bytes
abbrev pub Fun : Type 0
Fun = List ℕ → List ℕ → ℕ × List ℕ

-- how a statement ends: it goes on, or "RETURN ends its function"
pub data Outcome : Type 0 where
  goes : Slots → List ℕ → Outcome
  returned : ℕ → List ℕ → Outcome

abbrev pub Step : Type 0
Step = Slots → List ℕ → Outcome

unfoldable pub onward : Outcome → Step → Outcome
onward (goes σ m) k = k σ m
onward (returned v m) k = returned v m

-- "IF takes one branch"
unfoldable pub branch : Bool → Step → Step → Step
branch true s t = s
branch false s t = t

-- n passes of a loop, from i on
unfoldable pub passes : (ℕ → Step) → ℕ → ℕ → Step
passes body zero i σ m = goes σ m
passes body (suc n) i σ m = onward (body i σ m) (passes body n (suc i))

-- "a function that ends without one gives 0"
unfoldable pub ending : Outcome → ℕ × List ℕ
ending (goes σ m) = (0, m)
ending (returned v m) = (v, m)

-- over arrays with these lengths, where Φ has the lower functions' meanings; "Operands are worked out left to right, always both."
module _ (lengths : List ℕ) (Φ : ℕ → Fun) where
  unfoldable mutual
    pub value : Expr → Slots → List ℕ → ℕ × List ℕ
    value (num v) σ m = (v, m)
    value tru σ m = (TRUE, m)
    value fls σ m = (FALSE, m)
    value (var x) σ m = (σ x, m)
    value (get a i) σ m = let (k, m₁) = value i σ m in (fetch lengths m₁ a k, m₁)
    value (lnot e) σ m = let (v, m₁) = value e σ m in (negate v, m₁)
    value (bnot e) σ m = let (v, m₁) = value e σ m in (flip v, m₁)
    value (bin o l r) σ m = let (u, m₁) = value l σ m in let (v, m₂) = value r σ m₁ in (op o u v, m₂)
    value (call f es) σ m = let (vs, m₁) = values es σ m in Φ f vs m₁

    pub values : Exprs → Slots → List ℕ → List ℕ × List ℕ
    values none σ m = ([], m)
    values (more e es) σ m = let (v, m₁) = value e σ m in let (vs, m₂) = values es σ m₁ in (v ∷ vs, m₂)

  -- "statements in order; FOR runs q, q+1, .. r−1"
  unfoldable mutual
    pub run : Stmt → Step
    run skip σ m = goes σ m
    run (seq ss) σ m = runs ss σ m
    run (def x e) σ m = let (v, m₁) = value e σ m in goes (upd σ x v) m₁
    run (set x e) σ m = let (v, m₁) = value e σ m in goes (upd σ x v) m₁
    run (put a i e) σ m = let (k, m₁) = value i σ m in let (v, m₂) = value e σ m₁ in goes σ (store lengths m₂ a k v)
    run (for x q r s) σ m = passes (λ i σ₁ m₁. run s (upd σ₁ x i) m₁) (r - q) q σ m
    run (if c s t) σ m = let (v, m₁) = value c σ m in branch (truth v) (run s) (run t) σ m₁
    run (return e) σ m = let (v, m₁) = value e σ m in returned v m₁

    pub runs : Stmts → Step
    runs done σ m = goes σ m
    runs (next s ss) σ m = onward (run s σ m) (runs ss)

  unfoldable pub meaning : Func → Fun
  meaning f arguments m = ending (run f.body (fresh arguments) m)

-- the last function's meaning, where Φ has those below k, and the k-th comes next
unfoldable pub exposed : List ℕ → (ℕ → Fun) → ℕ → List Func → Fun
exposed lengths Φ k [] arguments m = (0, m)
exposed lengths Φ k (f ∷ []) arguments m = meaning lengths Φ f arguments m
exposed lengths Φ k (f ∷ g ∷ fs) arguments m = exposed lengths (upd Φ k (meaning lengths Φ f)) (suc k) (g ∷ fs) arguments m

unfoldable pub nothing : ℕ → Fun
nothing f arguments m = (0, m)

unfoldable pub plain : Program → Fun
plain p = exposed p.arrays nothing 0 p.funcs
