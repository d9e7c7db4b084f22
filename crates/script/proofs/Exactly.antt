-- A table is read (1 to 7 are passed) exactly if it is the table of a tree within the ranges and depths of 01; and that tree is the only one.
-- Assumes nothing.
use mathlib.Core.Path.{◌≡◌, refl, sym, ap, ◌∙◌}
use mathlib.Core.Bool.{Bool, true, false, cond, ◌&&◌}
use mathlib.Core.List.{List, [], ◌∷◌}
use mathlib.Core.Logic.{◌↔◌}
use Prim.Native.Nat.{ℕ, zero, suc, ◌+◌, ◌≤◌}
use native.Mathlib.Omega.{arith}
use borrow.Author.Tests.{leb-true, le-leb, ltb-false, le-ltb}
use lib.Dec.{leb, ltb}
use lib.ListN.{length, drop_of_length-le}
use Rattle.word.specs.Records.{rec, records, records_of, words_of, sized}
use Rattle.word.specs.declared.Record.{Record}
use Rattle.word.proofs.Memory.{Words}
use Rattle.word.proofs.Records.{records_length, words_records, records_words, words_length, sized_iff}
use Rattle.script.specs.Tree.{Expr, Stmt, Func, Program, size_f, size_s}
use Rattle.script.specs.Table.{program, array, function, lead}
use Rattle.script.specs.Parse.{Parsed, parsed, refused, and_then, parse_e, Nest, parse_s, outermost, entered, passed, func_of, headed, parse_funcs, nowhere, parse_arrays, parse_program, wholly, read_table}
use Rattle.script.specs.Written.{list_s, list_arrays, list_funcs, listing, table, head_of, InFunc, InFuncs, none_left, one_more, InArrays, no_array, an_array, Within}
use Rattle.script.specs.declared.Env.{Env}
use Rattle.script.proofs.Headed.{array_headed, func_headed, program_headed}
use Rattle.script.proofs.Sizes.{size_fs, listing_size}
use Rattle.script.proofs.Leading.{from, leads, leads_on, program_lawful, array_lawful, function_lawful, never, as_parsed, then_parsed, node_parsed}
use Rattle.script.proofs.Reading.{ExprAt, StmtAt, expr_read, stmt_read}
use Rattle.std.proofs.lemmas.Bool.{and_parts, and_from}
use Rattle.script.proofs.Writing.{expr_written, stmt_written}

-- ---- expressions and statements, anywhere in a table
pub expr_exactly : (t : List ℕ) → Words t → (v : Env) (left at : ℕ) (x : Expr) (end : ℕ) → (parse_e left v t at ≡ parsed x end) ↔ ExprAt t v left at x end
expr_exactly t w v left at x end = (expr_read t v left at x end, λ h. (expr_written t v x left at end h.is h.deep (h.fits w) h.ends).0)

pub stmt_exactly : (t : List ℕ) → Words t → (v : Env) (left : ℕ) (n : Nest) (at : ℕ) (x : Stmt) (end : ℕ)
    → (parse_s left n v t at ≡ parsed x end) ↔ StmtAt t v left n at x end
stmt_exactly t w v left n at x end = (
  stmt_read t v left n at x end,
  λ h. (stmt_written t v x left n at end h.is h.deep h.branches h.loops (h.fits w) h.ends).0,
)

-- ---- what is read
pub record ArraysAt (t : List ℕ) (n at : ℕ) (lengths : List ℕ) (end : ℕ) : Type 0 where
  pub is : from t at ≡ list_arrays lengths (from t end)
  pub count : length lengths ≡ n
  pub fits : InArrays lengths
  pub ends : end ≡ at + length lengths

pub arrays_read : (t : List ℕ) (n at : ℕ) (lengths : List ℕ) (end : ℕ) → parse_arrays n t at ≡ parsed lengths end → ArraysAt t n at lengths end
unfolding parse_arrays headed array list_arrays
arrays_read t zero at lengths end e =
    as_parsed (ArraysAt t 0 at) e (record { is = refl; count = refl; fits = no_array; ends = omega arith })
arrays_read t (suc n) at lengths end e =
    let (l, q, e₁) = node_parsed (array_headed n t at) (λ k p. refl) (lead array (nowhere 0) t at) e in
    let (is, range) = (leads t at array_lawful (nowhere 0) l).0 q in
    let (low, high) = and_parts (leb 1 l) (leb l 4096) range in
    let (ls, j, p, e₂) = then_parsed (parse_arrays n t (at + 1)) e₁ in
    let a = arrays_read t n (at + 1) ls j p in
    as_parsed (ArraysAt t (suc n) at) e₂
    (record {
      is = is ∙ ap (rec 2 l 0 0 ∷◌) a.is;
      count = ap suc a.count;
      fits = an_array (leb-true 1 l low) (leb-true l 4096 high) a.fits;
      ends = omega arith;
    })

-- the functions stand last
pub record FuncsAt (t : List ℕ) (n : ℕ) (v : Env) (at : ℕ) (fs : List Func) (end : ℕ) : Type 0 where
  pub is : from t end ≡ [] → from t at ≡ list_funcs fs
  pub count : length fs ≡ n
  pub fits : Words t → InFuncs v fs
  pub ends : end ≡ at + size_fs fs

pub funcs_read : (t : List ℕ) (n : ℕ) (v : Env) (at : ℕ) (fs : List Func) (end : ℕ) → parse_funcs n v t at ≡ parsed fs end → FuncsAt t n v at fs end
unfolding parse_funcs headed function func_of list_funcs size_fs size_f
funcs_read t zero v at fs end e =
    as_parsed (FuncsAt t 0 v at) e (record { is = λ h. h; count = refl; fits = λ w. none_left; ends = omega arith })
funcs_read t (suc n) v at fs end e =
    let (h, q, e₁) = node_parsed (func_headed n v t at) (λ k p. refl) (lead function v t at) e in
    let (is, range) = (leads t at function_lawful v h).0 q in
    let (s, i, p, e₂) = then_parsed (parse_s 16 outermost (entered v h) t (at + 1)) e₁ in
    let (gs, j, o, e₃) = then_parsed (parse_funcs n (passed v h) t i) e₂ in
    let a = stmt_read t (entered v h) 16 outermost (at + 1) s i p in
    let b = funcs_read t n (passed v h) i gs j o in
    let (params, few) = and_parts (leb h.params 8 && leb h.params h.slots) (leb h.slots 32) range in
    let (low, room) = and_parts (leb h.params 8) (leb h.params h.slots) params in
    let fits : Words t → InFunc v (func_of h s) =
    λ w.
    record {
      few = leb-true h.params 8 low;
      room = leb-true h.params h.slots room;
      slots = leb-true h.slots 32 few;
      body = a.fits w;
      deep = a.deep;
      branches = a.branches;
      loops = a.loops;
    } in
    as_parsed (FuncsAt t (suc n) v at) e₃
    (record {
      is = λ z. is ∙ ap (rec 3 h.params h.slots 0 ∷◌) (a.is ∙ ap (list_s s) (b.is z));
      count = ap suc b.count;
      fits = λ w. one_more (fits w) (b.fits w);
      ends = omega arith;
    })

record ProgramAt (t : List ℕ) (p : Program) (end : ℕ) : Type 0 where
  is : records_of t ≡ listing p
  fits : Words t → records t ≤ 4096 → Within p
  ends : end ≡ records t

program_read : (t : List ℕ) (p : Program) (end : ℕ) → records t ≤ end → parse_program t ≡ parsed p end → ProgramAt t p end
unfolding parse_program headed program listing
program_read t p end last e =
    let (h, q, e₁) = node_parsed (program_headed t 0) (λ k o. refl) (lead program (nowhere 0) t 0) e in
    let (is, range) = (leads t 0 program_lawful (nowhere 0) h).0 q in
    let (ls, i, o, e₂) = then_parsed (parse_arrays h.arrays t (0 + 1)) e₁ in
    let (fs, j, r, e₃) = then_parsed (parse_funcs h.functions (nowhere h.arrays) t i) e₂ in
    let a = arrays_read t h.arrays (0 + 1) ls i o in
    let b = funcs_read t h.functions (nowhere h.arrays) i fs j r in
    let (functions, arrays) = and_parts (leb 1 h.functions && leb h.functions 16) (leb h.arrays 8) range in
    let (some, few) = and_parts (leb 1 h.functions) (leb h.functions 16) functions in
    let u : Program = record { arrays = ls; funcs = fs } in
    let end_is : j ≡ end = cc in
    let none : from t j ≡ [] = drop_of_length-le (records_of t) {i = j} (omega (arith, records_length t)) in
    let all : records_of t ≡ listing u =
    rw (a.count, b.count) (is ∙ ap (rec 1 h.functions h.arrays 0 ∷◌) (a.is ∙ ap (list_arrays ls) (b.is none))) in
    let size : length (listing u) ≡ records t = sym (ap length all) ∙ records_length t in
    as_parsed (ProgramAt t) e₃
    (record {
      is = all;
      fits =
          λ w short.
          record {
            some = rw b.count (leb-true 1 h.functions some);
            functions = rw b.count (leb-true h.functions 16 few);
            arrays = rw a.count (leb-true h.arrays 8 arrays);
            lengths = a.fits;
            funcs = rw a.count (b.fits w);
            short = omega arith;
          };
      ends = omega (arith, listing_size u);
    })

-- ---- what is written
arrays_written : (t : List ℕ) {lengths : List ℕ} → InArrays lengths → (at : ℕ) {rest : List Record} → from t at ≡ list_arrays lengths rest
    → (parse_arrays (length lengths) t at ≡ parsed lengths (at + length lengths)) × (from t (at + length lengths) ≡ rest)
unfolding parse_arrays headed array list_arrays and_then
arrays_written t no_array at is = let q : at + 0 ≡ at = omega arith in rw q (refl, is)
arrays_written t (an_array {n} {lengths} low high h) at is =
    let (q, on) = leads_on t at array_lawful (nowhere 0) n is (and_from _ _ (le-leb 1 n low) (le-leb n 4096 high)) in
    let (p, rest) = arrays_written t h (at + 1) on in
    let e : at + suc (length lengths) ≡ at + 1 + length lengths = omega arith in
    rw e (rw (q, p) refl, rest)

funcs_written : (t : List ℕ) {v : Env} {fs : List Func} → InFuncs v fs → (at : ℕ) → from t at ≡ list_funcs fs
    → parse_funcs (length fs) v t at ≡ parsed fs (at + size_fs fs)
unfolding parse_funcs headed function func_of list_funcs size_fs size_f and_then
funcs_written t none_left at is = let q : at + 0 ≡ at = omega arith in rw q refl
funcs_written t {v} (one_more {f} {fs} h r) at is =
    let m = at + 1 + size_s f.body in
    let params = and_from _ _ (le-leb f.params 8 h.few) (le-leb f.params f.slots h.room) in
    let (q, on) = leads_on t at function_lawful v (head_of f) is (and_from _ _ params (le-leb f.slots 32 h.slots)) in
    let (p, rest) = stmt_written t (entered v (head_of f)) f.body 16 outermost (at + 1) m on h.deep h.branches h.loops h.body refl in
    let e : at + (suc (size_s f.body) + size_fs fs) ≡ m + size_fs fs = omega arith in
    rw (q, p, funcs_written t r m rest, e) refl

pub program_written : (t : List ℕ) (p : Program) → Within p → records_of t ≡ listing p → parse_program t ≡ parsed p (records t)
unfolding parse_program headed program listing and_then
program_written t p h is =
    let n = length p.funcs in
    let m = length p.arrays in
    let range = and_from _ _ (and_from _ _ (le-leb 1 n h.some) (le-leb n 16 h.functions)) (le-leb m 8 h.arrays) in
    let (q, on) = leads_on t 0 program_lawful (nowhere 0) (record { functions = n; arrays = m }) is range in
    let (o, rest) = arrays_written t h.lengths (0 + 1) on in
    let e : 0 + 1 + m + size_fs p.funcs ≡ records t = omega (arith, listing_size p, records_length t, ap length is) in
    rw (q, o, funcs_written t h.funcs (0 + 1 + m) rest, e) refl

-- ---- the whole table
-- 6: nothing follows
wholly_parsed : (n : ℕ) (r : Parsed Program) {p : Program} {i : ℕ} → wholly n r ≡ parsed p i → (n ≤ i) × (r ≡ parsed p i)
unfolding wholly
wholly_parsed n (parsed u j) {p} {i} e = by (ltb j n) refl e
  where
    by : (b : Bool) → ltb j n ≡ b → cond b (refused 6 j) (parsed u j) ≡ parsed p i → (n ≤ i) × (parsed u j ≡ parsed p i)
    by true h e = absurd (never e)
    by false h e = let q : j ≡ i = cc in (rw q at (ltb-false j n h), e)
wholly_parsed n (refused number place) e = absurd (never e)

-- 1: whole records, some and few
sized_parsed : (b : Bool) (r : Parsed Program) {p : Program} {i : ℕ} → cond b r (refused 1 0) ≡ parsed p i → (b ≡ true) × (r ≡ parsed p i)
sized_parsed true r e = (refl, e)
sized_parsed false r e = absurd (never e)

-- writing, then reading, gives the tree
pub read_written : (p : Program) → Within p → read_table (table p) ≡ parsed p (records (table p))
unfolding read_table wholly table listing
read_written p h =
    let t = words_of (listing p) in
    let four = words_length (listing p) in
    let size = (sized_iff 4096 (length t)).1 (omega arith, omega arith, omega (arith, h.short)) in
    rw (size, program_written t p h (records_words (listing p)), le-ltb (records t) (records t) (omega arith)) refl

-- reading, then writing, gives the words; and what is read is within the ranges and depths
pub written_read : (t : List ℕ) (p : Program) (i : ℕ) → Words t → read_table t ≡ parsed p i → (table p ≡ t) × Within p × (i ≡ records t)
unfolding read_table table
written_read t p i w e =
    let (b, e₁) = sized_parsed (sized 4096 (length t)) _ e in
    let (last, e₂) = wholly_parsed (records t) (parse_program t) e₁ in
    let (some, whole, few) = (sized_iff 4096 (length t)).0 b in
    let a = program_read t p i last e₂ in
    (sym (ap words_of a.is) ∙ words_records t (omega arith), a.fits w few, a.ends)

-- a table is read exactly if it is that of a tree within the ranges and depths
pub reads_exactly : (t : List ℕ) → Words t → (p : Program) (i : ℕ) → (read_table t ≡ parsed p i) ↔ ((table p ≡ t) × Within p × (i ≡ records t))
reads_exactly t w p i = (written_read t p i w, λ h. rw (h.2, ← h.0) (read_written p h.1))

-- and no other tree has it
pub one_tree : (p q : Program) → Within p → Within q → table p ≡ table q → p ≡ q
one_tree p q h k e =
    let r = sym (read_written p h) ∙ ap read_table e ∙ read_written q k in
    cc
