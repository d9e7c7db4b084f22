-- Two programs whose tables begin with the same k records: their functions are the same as far as those reach. Assumes nothing.
use mathlib.Core.Path.{◌≡◌, refl, sym, ap, ◌∙◌, subst}
use mathlib.Core.List.{List, [], ◌∷◌}
use Prim.Native.Nat.{ℕ, zero, suc, ◌+◌, ◌≤◌, ◌<◌}
use native.Mathlib.Omega.{arith}
use lib.ListN.{length, take}
use Rattle.word.specs.Records.{records, words_of}
use Rattle.word.proofs.Records.{records_words}
use Rattle.script.specs.Tree.{Func, Program, size_s, size_f}
use Rattle.script.specs.Table.{HeadF, HeadP, program, function, node, lead}
use Rattle.script.specs.Parse.{Parsed, parsed, and_then, parse_s, outermost, entered, passed, func_of, headed, parse_funcs, nowhere, parse_arrays, parse_program}
use Rattle.script.specs.Written.{listing, Within}
use Rattle.script.specs.Stage.{first_func}
use Rattle.script.specs.declared.Env.{Env}
use Rattle.script.proofs.Headed.{func_headed, program_headed}
use Rattle.script.proofs.Leading.{first_from, leads, function_lawful, as_parsed, then_parsed, node_parsed, one_head}
use Rattle.script.proofs.Reading.{stmt_read}
use Rattle.script.proofs.Exactly.{arrays_read, funcs_read, program_written}
use Rattle.script.proofs.Stopping.{Alike, alike, lead_same, stmt_kept}
use Rattle.script.proofs.Beginning.{LikeS, stmt_like, part, reached, behind, as_both}

-- the functions from the one at record `at` on
pub data LikeFs (k : ℕ) : ℕ → List Func → List Func → Type 0 where
  past_fs : {at : ℕ} {fs gs : List Func} → k ≤ at → LikeFs k at fs gs
  like_end : {at : ℕ} → LikeFs k at [] []
  like_func : {at : ℕ} {f g : Func} {fs gs : List Func} → f.params ≡ g.params → LikeS k (at + 1) f.body g.body
      → (at + size_f f ≤ k → f ≡ g) → LikeFs k (at + size_f f) fs gs → LikeFs k at (f ∷ fs) (g ∷ gs)

-- what stands behind a FUNC
abbrev behind_func : List ℕ → ℕ → Env → ℕ → HeadF → Parsed (List Func)
behind_func t n v i h =
    and_then (parse_s 16 outermost (entered v h) t i) (λ s j. and_then (parse_funcs n (passed v h) t j) (λ fs m. parsed (func_of h s ∷ fs) m))

module _ {t u : List ℕ} {k : ℕ} (𝓐 : Alike k t u) where
  abbrev LikesF : ℕ → Env → Type 0
  LikesF n v =
      (at : ℕ) → at ≤ records t → (fs gs : List Func) (i j : ℕ) → parse_funcs n v t at ≡ parsed fs i → parse_funcs n v u at ≡ parsed gs j → LikeFs k at fs gs

  func_like : (n : ℕ) (v : Env) (at : ℕ) (h : HeadF) → LikesF n (passed v h)
      → at + 1 ≤ records t → (fs gs : List Func) (i j : ℕ) → behind_func t n v (at + 1) h ≡ parsed fs i → behind_func u n v (at + 1) h ≡ parsed gs j
      → LikeFs k at fs gs
  unfolding func_of size_f
  func_like n v at h like l fs gs i j e f =
      let w = entered v h in
      let (s, i₁, p, e₁) = then_parsed (parse_s 16 outermost w t (at + 1)) e in
      let (r, j₁, q, f₁) = then_parsed (parse_s 16 outermost w u (at + 1)) f in
      let (fs₁, i₂, p₁, e₂) = then_parsed (parse_funcs n (passed v h) t i₁) e₁ in
      let (gs₁, j₂, q₁, f₂) = then_parsed (parse_funcs n (passed v h) u j₁) f₁ in
      let a = part 𝓐 (stmt_kept 𝓐 16 outermost w (at + 1) l) p q in
      let z : i₁ ≡ at + suc (size_s s) = omega (arith, (stmt_read t w 16 outermost (at + 1) s i₁ p).ends) in
      let rest : LikeFs k i₁ fs₁ gs₁ =
      behind 𝓐 (parse_funcs n (passed v h) u) i₁ j₁ a.end q₁ (λ m. past_fs (omega arith)) (like i₁ a.within fs₁ gs₁ i₂ j₂ p₁) in
      let body = stmt_like 𝓐 w 16 outermost (at + 1) l s r i₁ j₁ p q in
      let same : i₁ ≤ k → func_of h s ≡ func_of h r = λ m. ap (func_of h) (a.same m) in
      as_both (LikeFs k at) e₂ f₂
      (like_func refl body (subst (λ (o : ℕ). o ≤ k → func_of h s ≡ func_of h r) z same) (subst (λ (o : ℕ). LikeFs k o fs₁ gs₁) z rest))

  funcs_like : (n : ℕ) (v : Env) → LikesF n v
  unfolding parse_funcs headed
  funcs_like zero v at l fs gs i j e f = as_both (LikeFs k at) e f like_end
  funcs_like (suc n) v at l fs gs i j e f =
      let (h, p, e₁) = node_parsed (func_headed n v t at) (λ m o. refl) (lead function v t at) e in
      let (g, q, f₁) = node_parsed (func_headed n v u at) (λ m o. refl) (lead function v u at) f in
      let there = (first_from t at ((leads t at function_lawful v h).0 p).0).0 in
      let f₂ : at < k → behind_func u n v (at + 1) h ≡ parsed gs j =
      λ m. ap (behind_func u n v (at + 1)) (one_head (lead_same 𝓐 function v at l m) p q) ∙ f₁ in
      reached 𝓐 at past_fs (λ m. func_like n v at h (funcs_like n (passed v h)) (omega arith) fs gs i j e₁ (f₂ m))

-- ---- programs
pub record LikeP (k : ℕ) (p q : Program) : Type 0 where
  pub arrays : length p.arrays ≡ length q.arrays
  pub count : length p.funcs ≡ length q.funcs
  pub funcs : LikeFs k (first_func p) p.funcs q.funcs

-- a program that was read, behind its head
record Read (t : List ℕ) (p : Program) (end : ℕ) (h : HeadP) : Type 0 where
  head : lead program (nowhere 0) t 0 ≡ node h
  arrays : length p.arrays ≡ h.arrays
  count : length p.funcs ≡ h.functions
  funcs : parse_funcs h.functions (nowhere h.arrays) t (first_func p) ≡ parsed p.funcs end
  ends : first_func p ≤ end

read_program : (t : List ℕ) (p : Program) (end : ℕ) → parse_program t ≡ parsed p end → (h : HeadP) × Read t p end h
unfolding parse_program headed first_func
read_program t p end e =
    let (h, q, e₁) = node_parsed (program_headed t 0) (λ m o. refl) (lead program (nowhere 0) t 0) e in
    let (ls, i, r, e₂) = then_parsed (parse_arrays h.arrays t (0 + 1)) e₁ in
    let (fs, j, o, e₃) = then_parsed (parse_funcs h.functions (nowhere h.arrays) t i) e₂ in
    let a = arrays_read t h.arrays (0 + 1) ls i r in
    let b = funcs_read t h.functions (nowhere h.arrays) i fs j o in
    let here = subst (λ (m : ℕ). parse_funcs h.functions (nowhere h.arrays) t m ≡ parsed fs j) a.ends o in
    (h, as_parsed (λ q i. Read t q i h) e₃ (record { head = q; arrays = a.count; count = b.count; funcs = here; ends = omega arith }))

module _ {t u : List ℕ} {k : ℕ} (𝓐 : Alike k t u) where
  both_read : (p q : Program) (i j : ℕ) {h g : HeadP} → h ≡ g → i ≤ records t → Read t p i h → Read u q j g → LikeP k p q
  unfolding first_func
  both_read p q i j {h} {g} e l a b =
      let same : h.arrays ≡ g.arrays = ap (λ (z : HeadP). z.arrays) e in
      let first : 1 + length q.arrays ≡ 1 + length p.arrays = omega (arith, a.arrays, b.arrays) in
      let other = rw (← e, first) at b.funcs in
      record {
        arrays = omega (arith, a.arrays, b.arrays);
        count = a.count ∙ ap (λ (z : HeadP). z.functions) e ∙ sym b.count;
        funcs =
            funcs_like 𝓐 h.functions (nowhere h.arrays) (1 + length p.arrays) (omega (arith, a.ends)) p.funcs q.funcs i j a.funcs other;
      }

-- of programs within their ranges
pub begin_alike : (k : ℕ) (p q : Program) → 0 < k → Within p → Within q → take k (listing q) ≡ take k (listing p) → LikeP k p q
begin_alike k p q some h g e =
    let t = words_of (listing p) in
    let u = words_of (listing q) in
    let 𝓐 : Alike k t u = alike k t u (rw (records_words (listing p), records_words (listing q)) e) in
    let (m, a) = read_program t p (records t) (program_written t p h (records_words (listing p))) in
    let (n, b) = read_program u q (records u) (program_written u q g (records_words (listing q))) in
    let heads : m ≡ n = one_head (lead_same 𝓐 program (nowhere 0) 0 (omega arith) some) a.head b.head in
    both_read 𝓐 p q (records t) (records u) heads (omega arith) a b
