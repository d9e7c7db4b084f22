-- Two trees whose tables begin with the same k records: they are the same as far as those reach. Assumes nothing.
use mathlib.Core.Path.{◌≡◌, refl, ap, ◌∙◌}
use mathlib.Core.Bool.{Bool, true, false}
use mathlib.Core.List.{List}
use Prim.Native.Nat.{ℕ, zero, suc, ◌+◌, ◌≤◌, ◌<◌}
use native.Mathlib.Omega.{arith}
use borrow.Author.Tests.{leb-true, leb-false}
use lib.Dec.{leb}
use lib.ListN.{get_or}
use Rattle.word.specs.Records.{records}
use Rattle.word.specs.Value.{Op}
use Rattle.script.specs.Tree.{Expr, get, lnot, bnot, bin, call, Exprs, none, more, Stmt, seq, def, set, put, for, if, return, Stmts, done, next, size_e, size_s}
use Rattle.script.specs.Table.{HeadE, NUM, TRUE, FALSE, VAR, GET, LNOT, BNOT, BIN, CALL, HeadS, SKIP, SEQ, DEF, SET, PUT, FOR, IF, RETURN, expression, statement, node, lead}
use Rattle.script.specs.Parse.{Parsed, parsed, parts, build_e, enter_e, parse_e, Nest, nests, inside, sequence, build_s, enter_s, parse_s}
use Rattle.script.specs.declared.Env.{Env}
use Rattle.script.proofs.Leading.{first_from, leads, expression_lawful, statement_lawful, never, then_parsed, node_parsed, one_head}
use Rattle.script.proofs.Reading.{deep_never, nested_parsed, expr_read, stmt_read}
use Rattle.script.proofs.Stopping.{Alike, lead_same, Kept, reads, stops, expr_kept, stmt_kept}

-- ---- trees at record `at` that are the same up to record k; a part is the same where it ends before that
mutual
  pub data LikeE (k : ℕ) : ℕ → Expr → Expr → Type 0 where
    past_e : {at : ℕ} {x y : Expr} → k ≤ at → LikeE k at x y
    same_e_lem : {at : ℕ} {x : Expr} → LikeE k at x x
    like_get : {at a : ℕ} {x y : Expr} → LikeE k (at + 1) x y → LikeE k at (get a x) (get a y)
    like_lnot : {at : ℕ} {x y : Expr} → LikeE k (at + 1) x y → LikeE k at (lnot x) (lnot y)
    like_bnot : {at : ℕ} {x y : Expr} → LikeE k (at + 1) x y → LikeE k at (bnot x) (bnot y)
    like_bin : {at : ℕ} {o : Op} {l r m s : Expr} → LikeE k (at + 1) l m → (at + 1 + size_e l ≤ k → l ≡ m) → LikeE k (at + 1 + size_e l) r s
        → LikeE k at (bin o l r) (bin o m s)
    like_call : {at f : ℕ} {xs ys : Exprs} → LikeEs k (at + 1) xs ys → LikeE k at (call f xs) (call f ys)

  pub data LikeEs (k : ℕ) : ℕ → Exprs → Exprs → Type 0 where
    past_es : {at : ℕ} {xs ys : Exprs} → k ≤ at → LikeEs k at xs ys
    like_none : {at : ℕ} → LikeEs k at none none
    like_more : {at : ℕ} {x y : Expr} {xs ys : Exprs} → LikeE k at x y → (at + size_e x ≤ k → x ≡ y) → LikeEs k (at + size_e x) xs ys
        → LikeEs k at (more x xs) (more y ys)

mutual
  pub data LikeS (k : ℕ) : ℕ → Stmt → Stmt → Type 0 where
    past_s : {at : ℕ} {x y : Stmt} → k ≤ at → LikeS k at x y
    same_s_lem : {at : ℕ} {x : Stmt} → LikeS k at x x
    like_seq : {at : ℕ} {xs ys : Stmts} → LikeSs k (at + 1) xs ys → LikeS k at (seq xs) (seq ys)
    like_def : {at x : ℕ} {e d : Expr} → LikeE k (at + 1) e d → LikeS k at (def x e) (def x d)
    like_set : {at x : ℕ} {e d : Expr} → LikeE k (at + 1) e d → LikeS k at (set x e) (set x d)
    like_put : {at a : ℕ} {i j e d : Expr} → LikeE k (at + 1) i j → (at + 1 + size_e i ≤ k → i ≡ j) → LikeE k (at + 1 + size_e i) e d
        → LikeS k at (put a i e) (put a j d)
    like_for : {at x lo hi : ℕ} {s r : Stmt} → LikeS k (at + 1) s r → LikeS k at (for x lo hi s) (for x lo hi r)
    like_if : {at : ℕ} {c d : Expr} {s r s₁ r₁ : Stmt} → LikeE k (at + 1) c d → (at + 1 + size_e c ≤ k → c ≡ d) → LikeS k (at + 1 + size_e c) s r
        → (at + 1 + size_e c + size_s s ≤ k → s ≡ r) → LikeS k (at + 1 + size_e c + size_s s) s₁ r₁ → LikeS k at (if c s s₁) (if d r r₁)
    like_return : {at : ℕ} {e d : Expr} → LikeE k (at + 1) e d → LikeS k at (return e) (return d)

  pub data LikeSs (k : ℕ) : ℕ → Stmts → Stmts → Type 0 where
    past_ss : {at : ℕ} {xs ys : Stmts} → k ≤ at → LikeSs k at xs ys
    like_done : {at : ℕ} → LikeSs k at done done
    like_next : {at : ℕ} {x y : Stmt} {xs ys : Stmts} → LikeS k at x y → (at + size_s x ≤ k → x ≡ y) → LikeSs k (at + size_s x) xs ys
        → LikeSs k at (next x xs) (next y ys)

-- the same, where a part is known to end at i
bin_at : {k at i : ℕ} {o : Op} {l r m s : Expr} → i ≡ at + 1 + size_e l → LikeE k (at + 1) l m → (i ≤ k → l ≡ m) → LikeE k i r s
    → LikeE k at (bin o l r) (bin o m s)
bin_at e a b c = like_bin a (rw e at b) (rw e at c)

more_at : {k at i : ℕ} {x y : Expr} {xs ys : Exprs} → i ≡ at + size_e x → LikeE k at x y → (i ≤ k → x ≡ y) → LikeEs k i xs ys
    → LikeEs k at (more x xs) (more y ys)
more_at e a b c = like_more a (rw e at b) (rw e at c)

put_at : {k at i a : ℕ} {l r m s : Expr} → i ≡ at + 1 + size_e l → LikeE k (at + 1) l m → (i ≤ k → l ≡ m) → LikeE k i r s
    → LikeS k at (put a l r) (put a m s)
put_at e a b c = like_put a (rw e at b) (rw e at c)

next_at : {k at i : ℕ} {x y : Stmt} {xs ys : Stmts} → i ≡ at + size_s x → LikeS k at x y → (i ≤ k → x ≡ y) → LikeSs k i xs ys
    → LikeSs k at (next x xs) (next y ys)
next_at e a b c = like_next a (rw e at b) (rw e at c)

if_at : {k at i j : ℕ} {c d : Expr} {s r s₁ r₁ : Stmt} → i ≡ at + 1 + size_e c → j ≡ i + size_s s → LikeE k (at + 1) c d → (i ≤ k → c ≡ d)
    → LikeS k i s r → (j ≤ k → s ≡ r) → LikeS k j s₁ r₁ → LikeS k at (if c s s₁) (if d r r₁)
if_at e f a b l m o = like_if a (rw e at b) (rw e at l) (rw (f, e) at m) (rw (f, e) at o)

-- ---- what is read from two tables that begin alike
pub as_both : {A : Type 0} (P : A → A → Type 0) {a b c d : A} {i j l m : ℕ} → parsed a i ≡ parsed b j → parsed c l ≡ parsed d m → P a c → P b d
as_both P {a} {b} {c} {d} e f h = let p : a ≡ b = cc in let q : c ≡ d = cc in rw (← p, ← q) h

module _ {t u : List ℕ} {k : ℕ} (𝓐 : Alike k t u) where
  -- a part: where it ends; and that both are the same where that is before k
  pub record Part {A : Type 0} (i : ℕ) (a : A) (j : ℕ) (b : A) : Type 0 where
    pub within : i ≤ records t
    pub same : i ≤ k → a ≡ b
    pub end : i ≤ k → i ≡ j

  pub part : {A : Type 0} {at : ℕ} {p q : Parsed A} {a b : A} {i j : ℕ} → Kept 𝓐 at p q → p ≡ parsed a i → q ≡ parsed b j → Part i a j b
  part {a} {b} {i} {j} (reads {a = c} {j = l} m n e) g h =
      let l_is : l ≡ i = cc in
      record { within = rw l_is at n; same = λ w. let z = e (rw l_is w) in cc; end = λ w. let z = e (rw l_is w) in cc }
  part (stops m e) g h = absurd (never g)

  -- past k, or before it
  pub reached : {P : Type 0} (i : ℕ) → (k ≤ i → P) → (i < k → P) → P
  reached {P} i past here = by (leb k i) refl
    where
      by : (b : Bool) → leb k i ≡ b → P
      by true h = past (leb-true k i h)
      by false h = here (leb-false k i h)

  -- what stands behind a part
  pub behind : {A P : Type 0} (g : ℕ → Parsed A) {b : A} {m : ℕ} (i j : ℕ) → (i ≤ k → i ≡ j) → g j ≡ parsed b m → (k < i → P) → (g i ≡ parsed b m → P) → P
  behind {A} {P} g {b} {m} i j e q past here = by (leb i k) refl
    where
      by : (z : Bool) → leb i k ≡ z → P
      by true h = here (ap g (e (leb-true i k h)) ∙ q)
      by false h = past (leb-false i k h)

  -- ---- expressions
  module _ (v : Env) where
    abbrev LikesE : ℕ → Type 0
    LikesE left = (at : ℕ) → at ≤ records t → (x y : Expr) (i j : ℕ) → parse_e left v t at ≡ parsed x i → parse_e left v u at ≡ parsed y j → LikeE k at x y

    module _ (left : ℕ) (like : LikesE left) where
      parts_like : (n at : ℕ) → at ≤ records t → (xs ys : Exprs) (i j : ℕ)
          → parts (parse_e left v t) n at ≡ parsed xs i → parts (parse_e left v u) n at ≡ parsed ys j → LikeEs k at xs ys
      unfolding parts
      parts_like zero at l xs ys i j e f = as_both (LikeEs k at) e f like_none
      parts_like (suc n) at l xs ys i j e f =
          let (x, i₁, p, e₁) = then_parsed (parse_e left v t at) e in
          let (y, j₁, q, f₁) = then_parsed (parse_e left v u at) f in
          let (xs₁, i₂, p₁, e₂) = then_parsed (parts (parse_e left v t) n i₁) e₁ in
          let (ys₁, j₂, q₁, f₂) = then_parsed (parts (parse_e left v u) n j₁) f₁ in
          let a = part (expr_kept 𝓐 left v at l) p q in
          let z = (expr_read t v left at x i₁ p).ends in
          let rest : LikeEs k i₁ xs₁ ys₁ =
          behind (parts (parse_e left v u) n) i₁ j₁ a.end q₁ (λ m. past_es (omega arith)) (parts_like n i₁ a.within xs₁ ys₁ i₂ j₂ p₁) in
          as_both (LikeEs k at) e₂ f₂ (more_at z (like at l x y i₁ j₁ p q) a.same rest)

      build_like : (at : ℕ) → at + 1 ≤ records t → (h : HeadE) (x y : Expr) (i j : ℕ)
          → build_e (parse_e left v t) v (at + 1) h ≡ parsed x i → build_e (parse_e left v u) v (at + 1) h ≡ parsed y j → LikeE k at x y
      unfolding build_e
      build_like at l (NUM n) x y i j e f = as_both (LikeE k at) e f same_e_lem
      build_like at l TRUE x y i j e f = as_both (LikeE k at) e f same_e_lem
      build_like at l FALSE x y i j e f = as_both (LikeE k at) e f same_e_lem
      build_like at l (VAR n) x y i j e f = as_both (LikeE k at) e f same_e_lem
      build_like at l (GET a) x y i j e f =
          let (x₁, i₁, p, e₁) = then_parsed (parse_e left v t (at + 1)) e in
          let (y₁, j₁, q, f₁) = then_parsed (parse_e left v u (at + 1)) f in
          as_both (LikeE k at) e₁ f₁ (like_get (like (at + 1) l x₁ y₁ i₁ j₁ p q))
      build_like at l LNOT x y i j e f =
          let (x₁, i₁, p, e₁) = then_parsed (parse_e left v t (at + 1)) e in
          let (y₁, j₁, q, f₁) = then_parsed (parse_e left v u (at + 1)) f in
          as_both (LikeE k at) e₁ f₁ (like_lnot (like (at + 1) l x₁ y₁ i₁ j₁ p q))
      build_like at l BNOT x y i j e f =
          let (x₁, i₁, p, e₁) = then_parsed (parse_e left v t (at + 1)) e in
          let (y₁, j₁, q, f₁) = then_parsed (parse_e left v u (at + 1)) f in
          as_both (LikeE k at) e₁ f₁ (like_bnot (like (at + 1) l x₁ y₁ i₁ j₁ p q))
      build_like at l (BIN o) x y i j e f =
          let (x₁, i₁, p, e₁) = then_parsed (parse_e left v t (at + 1)) e in
          let (y₁, j₁, q, f₁) = then_parsed (parse_e left v u (at + 1)) f in
          let (x₂, i₂, p₁, e₂) = then_parsed (parse_e left v t i₁) e₁ in
          let (y₂, j₂, q₁, f₂) = then_parsed (parse_e left v u j₁) f₁ in
          let a = part (expr_kept 𝓐 left v (at + 1) l) p q in
          let z = (expr_read t v left (at + 1) x₁ i₁ p).ends in
          let rest : LikeE k i₁ x₂ y₂ = behind (parse_e left v u) i₁ j₁ a.end q₁ (λ m. past_e (omega arith)) (like i₁ a.within x₂ y₂ i₂ j₂ p₁) in
          as_both (LikeE k at) e₂ f₂ (bin_at z (like (at + 1) l x₁ y₁ i₁ j₁ p q) a.same rest)
      build_like at l (CALL g) x y i j e f =
          let n = get_or v.params g 0 in
          let (xs, i₁, p, e₁) = then_parsed (parts (parse_e left v t) n (at + 1)) e in
          let (ys, j₁, q, f₁) = then_parsed (parts (parse_e left v u) n (at + 1)) f in
          as_both (LikeE k at) e₁ f₁ (like_call (parts_like n (at + 1) l xs ys i₁ j₁ p q))

    expr_like : (left : ℕ) → LikesE left
    unfolding parse_e enter_e
    expr_like zero at l x y i j e f = absurd (deep_never at (lead expression v t at) e)
    expr_like (suc left) at l x y i j e f =
        let (h, p, e₁) = node_parsed (enter_e (parse_e left v t) v at) (λ n o. refl) (lead expression v t at) e in
        let (g, q, f₁) = node_parsed (enter_e (parse_e left v u) v at) (λ n o. refl) (lead expression v u at) f in
        let there = (first_from t at ((leads t at expression_lawful v h).0 p).0).0 in
        let f₂ : at < k → build_e (parse_e left v u) v (at + 1) h ≡ parsed y j =
        λ m. ap (build_e (parse_e left v u) v (at + 1)) (one_head (lead_same 𝓐 expression v at l m) p q) ∙ f₁ in
        reached at past_e (λ m. build_like left (expr_like left) at (omega arith) h x y i j e₁ (f₂ m))

    -- ---- statements
    abbrev LikesS : ℕ → Nest → Type 0
    LikesS left n =
        (at : ℕ) → at ≤ records t → (x y : Stmt) (i j : ℕ) → parse_s left n v t at ≡ parsed x i → parse_s left n v u at ≡ parsed y j → LikeS k at x y

    sequence_like : (left : ℕ) (n : Nest) → LikesS left n → (m at : ℕ) → at ≤ records t → (xs ys : Stmts) (i j : ℕ)
        → sequence (parse_s left n v t) m at ≡ parsed xs i → sequence (parse_s left n v u) m at ≡ parsed ys j → LikeSs k at xs ys
    unfolding sequence
    sequence_like left n like zero at l xs ys i j e f = as_both (LikeSs k at) e f like_done
    sequence_like left n like (suc m) at l xs ys i j e f =
        let (x, i₁, p, e₁) = then_parsed (parse_s left n v t at) e in
        let (y, j₁, q, f₁) = then_parsed (parse_s left n v u at) f in
        let (xs₁, i₂, p₁, e₂) = then_parsed (sequence (parse_s left n v t) m i₁) e₁ in
        let (ys₁, j₂, q₁, f₂) = then_parsed (sequence (parse_s left n v u) m j₁) f₁ in
        let a = part (stmt_kept 𝓐 left n v at l) p q in
        let z = (stmt_read t v left n at x i₁ p).ends in
        let rest : LikeSs k i₁ xs₁ ys₁ =
        behind (sequence (parse_s left n v u) m) i₁ j₁ a.end q₁ (λ o. past_ss (omega arith))
        (sequence_like left n like m i₁ a.within xs₁ ys₁ i₂ j₂ p₁) in
        as_both (LikeSs k at) e₂ f₂ (next_at z (like at l x y i₁ j₁ p q) a.same rest)

    module _ (left : ℕ) (n : Nest) (at : ℕ) (l : at + 1 ≤ records t) where
      whole_like : (x y : Expr) (i j : ℕ) → parse_e 16 v t (at + 1) ≡ parsed x i → parse_e 16 v u (at + 1) ≡ parsed y j → LikeE k (at + 1) x y
      whole_like = expr_like 16 (at + 1) l

      stmt_build : (h : HeadS) → LikesS left (inside n h) → (x y : Stmt) (i j : ℕ)
          → build_s (parse_e 16 v t) (parse_s left (inside n h) v t) (at + 1) h ≡ parsed x i
          → build_s (parse_e 16 v u) (parse_s left (inside n h) v u) (at + 1) h ≡ parsed y j → LikeS k at x y
      unfolding build_s
      stmt_build SKIP like x y i j e f = as_both (LikeS k at) e f same_s_lem
      stmt_build (SEQ m) like x y i j e f =
          let s = inside n (SEQ m) in
          let (xs, i₁, p, e₁) = then_parsed (sequence (parse_s left s v t) m (at + 1)) e in
          let (ys, j₁, q, f₁) = then_parsed (sequence (parse_s left s v u) m (at + 1)) f in
          as_both (LikeS k at) e₁ f₁ (like_seq (sequence_like left s like m (at + 1) l xs ys i₁ j₁ p q))
      stmt_build (DEF m) like x y i j e f =
          let (x₁, i₁, p, e₁) = then_parsed (parse_e 16 v t (at + 1)) e in
          let (y₁, j₁, q, f₁) = then_parsed (parse_e 16 v u (at + 1)) f in
          as_both (LikeS k at) e₁ f₁ (like_def (whole_like x₁ y₁ i₁ j₁ p q))
      stmt_build (SET m) like x y i j e f =
          let (x₁, i₁, p, e₁) = then_parsed (parse_e 16 v t (at + 1)) e in
          let (y₁, j₁, q, f₁) = then_parsed (parse_e 16 v u (at + 1)) f in
          as_both (LikeS k at) e₁ f₁ (like_set (whole_like x₁ y₁ i₁ j₁ p q))
      stmt_build (PUT m) like x y i j e f =
          let (x₁, i₁, p, e₁) = then_parsed (parse_e 16 v t (at + 1)) e in
          let (y₁, j₁, q, f₁) = then_parsed (parse_e 16 v u (at + 1)) f in
          let (x₂, i₂, p₁, e₂) = then_parsed (parse_e 16 v t i₁) e₁ in
          let (y₂, j₂, q₁, f₂) = then_parsed (parse_e 16 v u j₁) f₁ in
          let a = part (expr_kept 𝓐 16 v (at + 1) l) p q in
          let z = (expr_read t v 16 (at + 1) x₁ i₁ p).ends in
          let rest : LikeE k i₁ x₂ y₂ = behind (parse_e 16 v u) i₁ j₁ a.end q₁ (λ m. past_e (omega arith)) (expr_like 16 i₁ a.within x₂ y₂ i₂ j₂ p₁) in
          as_both (LikeS k at) e₂ f₂ (put_at z (whole_like x₁ y₁ i₁ j₁ p q) a.same rest)
      stmt_build (FOR m lo hi) like x y i j e f =
          let s = inside n (FOR m lo hi) in
          let (x₁, i₁, p, e₁) = then_parsed (parse_s left s v t (at + 1)) e in
          let (y₁, j₁, q, f₁) = then_parsed (parse_s left s v u (at + 1)) f in
          as_both (LikeS k at) e₁ f₁ (like_for (like (at + 1) l x₁ y₁ i₁ j₁ p q))
      stmt_build IF like x y i j e f =
          let s = inside n IF in
          let (x₁, i₁, p, e₁) = then_parsed (parse_e 16 v t (at + 1)) e in
          let (y₁, j₁, q, f₁) = then_parsed (parse_e 16 v u (at + 1)) f in
          let (x₂, i₂, p₁, e₂) = then_parsed (parse_s left s v t i₁) e₁ in
          let (y₂, j₂, q₁, f₂) = then_parsed (parse_s left s v u j₁) f₁ in
          let (x₃, i₃, p₂, e₃) = then_parsed (parse_s left s v t i₂) e₂ in
          let (y₃, j₃, q₂, f₃) = then_parsed (parse_s left s v u j₂) f₂ in
          let a = part (expr_kept 𝓐 16 v (at + 1) l) p q in
          let z = (expr_read t v 16 (at + 1) x₁ i₁ p).ends in
          let z₁ = (stmt_read t v left s i₁ x₂ i₂ p₁).ends in
          let first = whole_like x₁ y₁ i₁ j₁ p q in
          let far : k < i₁ → LikeS k at (if x₁ x₂ x₃) (if y₁ y₂ y₃) =
          λ m. if_at z z₁ first a.same (past_s (omega arith)) (λ o. absurd (omega arith)) (past_s (omega arith)) in
          let near : parse_s left s v u i₁ ≡ parsed y₂ j₂ → LikeS k at (if x₁ x₂ x₃) (if y₁ y₂ y₃) =
          λ q₃.
          let b = part (stmt_kept 𝓐 left s v i₁ a.within) p₁ q₃ in
          let rest : LikeS k i₂ x₃ y₃ = behind (parse_s left s v u) i₂ j₂ b.end q₂ (λ m. past_s (omega arith)) (like i₂ b.within x₃ y₃ i₃ j₃ p₂) in
          if_at z z₁ first a.same (like i₁ a.within x₂ y₂ i₂ j₂ p₁ q₃) b.same rest in
          as_both (LikeS k at) e₃ f₃ (behind (parse_s left s v u) i₁ j₁ a.end q₁ far near)
      stmt_build RETURN like x y i j e f =
          let (x₁, i₁, p, e₁) = then_parsed (parse_e 16 v t (at + 1)) e in
          let (y₁, j₁, q, f₁) = then_parsed (parse_e 16 v u (at + 1)) f in
          as_both (LikeS k at) e₁ f₁ (like_return (whole_like x₁ y₁ i₁ j₁ p q))

    pub stmt_like : (left : ℕ) (n : Nest) → LikesS left n
    unfolding parse_s enter_s
    stmt_like zero n at l x y i j e f = absurd (deep_never at (lead statement v t at) e)
    stmt_like (suc left) n at l x y i j e f =
        let of_t : Nest → ℕ → Parsed Stmt = λ m o. parse_s left m v t o in
        let of_u : Nest → ℕ → Parsed Stmt = λ m o. parse_s left m v u o in
        let (h, p, e₁) = node_parsed (enter_s (parse_e 16 v t) of_t n at) (λ m o. refl) (lead statement v t at) e in
        let (g, q, f₁) = node_parsed (enter_s (parse_e 16 v u) of_u n at) (λ m o. refl) (lead statement v u at) f in
        let there = (first_from t at ((leads t at statement_lawful v h).0 p).0).0 in
        let e₂ = (nested_parsed (nests n h) at _ e₁).1 in
        let f₂ : at < k → enter_s (parse_e 16 v u) of_u n at (node h) ≡ parsed y j =
        λ m. ap (λ (z : HeadS). enter_s (parse_e 16 v u) of_u n at (node z)) (one_head (lead_same 𝓐 statement v at l m) p q) ∙ f₁ in
        reached at past_s (λ m. stmt_build left n at (omega arith) h (stmt_like left (inside n h)) x y i j e₂ (nested_parsed (nests n h) at _ (f₂ m)).1)
