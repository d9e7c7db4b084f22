-- Walks over PROGRAM, its arrays and its functions, in the code's steps; and the stage's answer by the whole walk. Assumes nothing.
use Rattle.std.proofs.Common.{◌≡◌, ℕ, suc, ◌+◌, ◌-◌, ◌<◌, ◌≤◌, Bool, true, false, cond, ◌&&◌, List, ◌∷◌, length, refl, arith, ltb, leb}
use Rattle.std.specs.Prelude.{Ok}
use mathlib.Core.Bool.{and-eq-true_iff}
use borrow.Author.Tests.{leb-true}
use Rattle.word.specs.Records.{records, sized}
use Rattle.word.specs.Reader.{read_at}
use Rattle.word.specs.Refusals.{refuse, ◌>>=◌}
use Rattle.word.specs.declared.Record.{Record}
use Rattle.script.specs.Tree.{Program}
use Rattle.script.specs.Table.{program, array, function, lead_by}
use Rattle.script.specs.Parse.{Parsed, parsed, refused, and_then, sequence, parse_s, outermost, entered, passed, func_of, headed, parse_funcs, nowhere, parse_arrays, parse_program, wholly, read_table}
use Rattle.script.specs.Stage.{clean}
use Rattle.script.specs.declared.Env.{Env}
use Rattle.reading.specs.Structure.{due_of, leads, walk_of, fault_of, structured}
use Rattle.reading.proofs.Tested.{in_range, lead_is}
use Rattle.reading.proofs.Descending.{then_walk, same_walk, sequence_one}

-- ---- the arrays: what is left of them after k of n
pub arrays_more : (t : List ℕ) (n k at : ℕ) → k < n
    → walk_of (parse_arrays (n - k) t at)
    ≡ (due_of t (read_at t at) >>= λ found. leads (lead_by array (nowhere 0) found.0 at) >>= λ u. walk_of (parse_arrays (n - (k + 1)) t found.1.at))
unfolding parse_arrays headed walk_of
arrays_more t n k at h =
    let one : n - k ≡ suc (n - (k + 1)) = omega arith in
    rw one
    (lead_is array (nowhere 0) t at (λ l. walk_of (headed (λ n' i. and_then (parse_arrays (n - (k + 1)) t i) (λ ls j. parsed (n' ∷ ls) j)) at l)) _
    (λ x r next. rw next (same_walk (parse_arrays (n - (k + 1)) t (at + 1)) (array.read x ∷◌))) (λ number place. refl))

pub arrays_all : (t : List ℕ) (n k at : ℕ) → n ≤ k → walk_of (parse_arrays (n - k) t at) ≡ Ok (record { at = at })
unfolding parse_arrays walk_of
arrays_all t n k at h = let none : n - k ≡ 0 = omega arith in rw none refl

-- ---- the functions: what is left of them after k of n, where those before are known to e
pub functions_more : (t : List ℕ) (e : Env) (n k at : ℕ) → k < n
    → walk_of (parse_funcs (n - k) e t at)
    ≡ (due_of t (read_at t at) >>= λ found.
    leads (lead_by function e found.0 at) >>= λ u.
    walk_of (sequence (parse_s 16 outermost (entered e (function.read found.0)) t) 1 found.1.at)
    >>= λ r. walk_of (parse_funcs (n - (k + 1)) (passed e (function.read found.0)) t r.at))
unfolding parse_funcs headed walk_of
functions_more t e n k at h =
    let one : n - k ≡ suc (n - (k + 1)) = omega arith in
    rw one
    (lead_is function e t at
    (λ l. walk_of (headed
    (λ h i. and_then (parse_s 16 outermost (entered e h) t i) (λ s j. and_then (parse_funcs (n - (k + 1)) (passed e h) t j) (λ fs k. parsed (func_of h s ∷ fs) k)))
    at l)) _
    (λ x r next.
    let h = function.read x in
    rw (next, sequence_one)
    (then_walk (parse_s 16 outermost (entered e h) t (at + 1)) _ (λ j. walk_of (parse_funcs (n - (k + 1)) (passed e h) t j))
    (λ s j. same_walk (parse_funcs (n - (k + 1)) (passed e h) t j) (func_of h s ∷◌))))
    (λ number place. refl))

pub functions_all : (t : List ℕ) (e : Env) (n k at : ℕ) → n ≤ k → walk_of (parse_funcs (n - k) e t at) ≡ Ok (record { at = at })
unfolding parse_funcs walk_of
functions_all t e n k at h = let none : n - k ≡ 0 = omega arith in rw none refl

-- ---- the program: its arrays, and then its functions
pub program_is : (t : List ℕ)
    → walk_of (parse_program t)
    ≡ (due_of t (read_at t 0) >>= λ found.
    leads (lead_by program (nowhere 0) found.0 0) >>= λ u.
    walk_of (parse_arrays found.0.q t found.1.at) >>= λ r. walk_of (parse_funcs found.0.p (nowhere found.0.q) t r.at))
unfolding parse_program headed walk_of program
program_is t =
    lead_is program (nowhere 0) t 0
    (λ l. walk_of {A = Program} (headed
    (λ h i.
    and_then (parse_arrays h.arrays t i) (λ ls j.
    and_then (parse_funcs h.functions (nowhere h.arrays) t j) (λ fs k. parsed (record { arrays = ls; funcs = fs }) k)))
    0 l)) _
    (λ x r next. rw next
    (then_walk (parse_arrays x.q t 1) _ (λ j. walk_of (parse_funcs x.p (nowhere x.q) t j))
    (λ ls j. same_walk (parse_funcs x.p (nowhere x.q) t j) (λ fs. record { arrays = ls; funcs = fs }))))
    (λ number place. refl)

-- sixteen functions at most
pub program_room : (e : Env) (x : Record) (at : ℕ) → leads (lead_by program e x at) ≡ Ok tt → x.p ≤ 16
unfolding program
program_room e x at is =
    let (some, arrays) = (and-eq-true_iff (leb 1 x.p && leb x.p 16) (leb x.q 8)).0 (in_range program e x at is) in
    leb-true x.p 16 ((and-eq-true_iff (leb 1 x.p) (leb x.p 16)).0 some).1

-- ---- the stage: 6 where records are left over
pub stage_is : (t : List ℕ) → structured t ≡ cond (sized 4096 (length t)) (walk_of (parse_program t) >>= λ r. cond (ltb r.at (records t)) (refuse 6 r.at) clean) (refuse 1 0)
unfolding structured read_table fault_of wholly walk_of
stage_is t = by (sized 4096 (length t)) (parse_program t)
  where
    over : (b : Bool) (p : Program) (i : ℕ) → fault_of (cond b (refused 6 i) (parsed p i)) ≡ cond b (refuse 6 i) clean
    over true p i = refl
    over false p i = refl

    by : (b : Bool) (p : Parsed Program)
        → fault_of (cond b (wholly (records t) p) (refused 1 0)) ≡ cond b (walk_of p >>= λ r. cond (ltb r.at (records t)) (refuse 6 r.at) clean) (refuse 1 0)
    by true (parsed p i) = over (ltb i (records t)) p i
    by true (refused number place) = refl
    by false p = refl

module _ (t : List ℕ) where
  -- ---- what the answer says: a table passes exactly if it is read
  pub clean_read : structured t ≡ clean → (p : Program) × (i : ℕ) × (read_table t ≡ parsed p i)
  unfolding structured fault_of
  clean_read is = by (read_table t) refl
    where
      by : (r : Parsed Program) → read_table t ≡ r → (p : Program) × (i : ℕ) × (read_table t ≡ parsed p i)
      by (parsed p i) e = (p, i, e)
      by (refused number place) e = let h = rw e at is in let z : ◌≡◌ {A = ℕ} 0 1 = cc in absurd (omega arith)

  pub read_clean : (p : Program) (i : ℕ) → read_table t ≡ parsed p i → structured t ≡ clean
  unfolding structured fault_of
  read_clean p i e = rw e refl

  pub refused_fault : (number place : ℕ) → read_table t ≡ refused number place → structured t ≡ refuse number place
  unfolding structured fault_of
  refused_fault number place e = rw e refl
