-- A walk over a table and a stage over the tree that stands there go together: both stop at the same fault, or both go on, the walk past the tree's last
-- record and with a state that means the stage's. For any stage. Assumes nothing.
use Prim.Native.Nat.{ℕ, ◌+◌, ◌-◌, ◌≤◌}
use mathlib.Core.Path.{◌≡◌, refl, ap, subst}
use mathlib.Core.List.{List, ◌∷◌}
use lib.ListN.{length}
use Rattle.word.specs.Records.{rec}
use Rattle.word.specs.declared.Record.{Record}
use Rattle.word.proofs.Memory.{Words}
use Rattle.script.specs.Tree.{Func, Program, size_f}
use Rattle.script.specs.Parse.{parsed, passed, nowhere, read_table}
use Rattle.script.specs.Written.{list_s, list_funcs, head_of, InFunc, InFuncs, none_left, one_more}
use Rattle.script.specs.Stage.{or_else, Walked, goes, stops, after, onward, ended, each_func, first_func, over_program}
use Rattle.scoping.specs.Passes.{At, come, statements_of, Turn, closing, nested, walk, Over, then_first, func_at, funcs_from, staged}
use Rattle.script.specs.declared.Env.{Env}
use Rattle.script.specs.Stage.{First}
use Rattle.script.proofs.Leading.{from}
use Rattle.scoping.proofs.Found.{finds, lists, begins}
use Rattle.scoping.proofs.Walking.{walk_found}
use Rattle.std.specs.Prelude.{Ok, Err}

pub data Together {A B : Type 0} (mean : A → B) (end : ℕ) : Walked (At A) → Walked B → Type 0 where
  both_go : {a : A} {b : B} → mean a ≡ b → Together mean end (come end a) (goes b)
  both_stop : {number place : ℕ} → Together mean end (stops number place) (stops number place)

module _ {A B : Type 0} {mean : A → B} where
  pub go_on : {i : ℕ} (j : ℕ) {w : Walked (At A)} {r : Walked B} (f : At A → Walked (At A)) (g : B → Walked B)
      → Together mean i w r → ((a : A) → Together mean j (f (record { at = i; state = a })) (g (mean a))) → Together mean j (onward w f) (onward r g)
  unfolding onward
  go_on {i} j f g (both_go {a} {b} e) h = subst (λ (y : B). Together mean j (f (record { at = i; state = a })) (g y)) e (h a)
  go_on j f g both_stop h = both_stop

  pub go_after : {i : ℕ} {w : Walked (At A)} {r : Walked B} (f : First) → Together mean i w r → Together mean i (after f w) (after f r)
  unfolding after
  go_after (Ok u) h = h
  go_after (Err r) h = both_stop

  pub go_to : {i j : ℕ} {w : Walked (At A)} {r : Walked B} → i ≡ j → Together mean i w r → Together mean j w r
  go_to {w} {r} e h = subst (λ (k : ℕ). Together mean k w r) e h

  pub go_as : {i : ℕ} {v w : Walked (At A)} {r q : Walked B} → v ≡ w → r ≡ q → Together mean i w q → Together mean i v r
  go_as e f h = rw (e, f) h

  -- a function's statement, and the functions after it
  pub go_first : {end : ℕ} {w : Walked (At A)} {r : Walked B} (next : ℕ → First) → Together mean end w r
      → then_first (onward w (λ b. goes b.at)) next ≡ or_else (ended r) (next end)
  unfolding onward then_first ended or_else
  go_first next (both_go e) = refl
  go_first next both_stop = refl

-- ---- laws of stages
pub onward_goes : {A : Type 0} (w : Walked A) → onward w (λ a. goes a) ≡ w
unfolding onward
onward_goes (goes a) = refl
onward_goes (stops number place) = refl

pub onward_assoc : {A B C : Type 0} (w : Walked A) (f : A → Walked B) (g : B → Walked C) → onward (onward w f) g ≡ onward w (λ a. onward (f a) g)
unfolding onward
onward_assoc (goes a) f g = refl
onward_assoc (stops number place) f g = refl

pub onward_after : {A B : Type 0} (f : First) (w : Walked A) (g : A → Walked B) → onward (after f w) g ≡ after f (onward w g)
unfolding onward after
onward_after (Ok u) w g = refl
onward_after (Err r) w g = refl

pub after_after : {A : Type 0} (f g : First) (w : Walked A) → after f (after g w) ≡ after (or_else f g) w
unfolding after or_else
after_after (Ok u) g w = refl
after_after (Err r) g w = refl

pub or_assoc : (a b c : First) → or_else (or_else a b) c ≡ or_else a (or_else b c)
unfolding or_else
or_assoc (Ok u) b c = refl
or_assoc (Err r) b c = refl

-- ---- a statement's record
module _ {A : Type 0} (T : Turn A) (t : List ℕ) (a : A) where
  pub enters : (x : Record) (left at : ℕ) {rest : List Record} → from t at ≡ x ∷ rest → 1 ≤ left
      → (walk T t left at a ≡ nested (walk T t (left - 1)) (closing (T.leave x.kind a)) (statements_of x) (T.enter a at x)) × (from t (at + 1) ≡ rest)
  enters x left at is some =
      let (read, on) = finds t at is in
      (walk_found T t at a left x _ some read, on)

-- ---- the functions of a program
module _ {M : Type 0} (O : Over M) (stage : ℕ → Func → First) (t : List ℕ) (Knows : Env → M → Type 0)
    (noted : (v : Env) (m : M) (f : Func) → Knows v m → Knows (passed v (head_of f)) (O.note m (rec 3 f.params f.slots 0)))
    (one : (v : Env) (m : M) (f : Func) (at : ℕ) (fs : List Func) (next : ℕ → First) → Knows v m → InFunc v f → from t (at + 1) ≡ list_s f.body (list_funcs fs)
    → (then_first (O.body m (rec 3 f.params f.slots 0) (at + 1)) next ≡ or_else (stage at f) (next (at + size_f f))) × (from t (at + size_f f) ≡ list_funcs fs)) where
  funcs_staged : {v : Env} {fs : List Func} → InFuncs v fs → (m : M) (at : ℕ) → Knows v m → from t at ≡ list_funcs fs → funcs_from O t (length fs) m at ≡ each_func stage at fs
  unfolding funcs_from func_at each_func list_funcs
  funcs_staged none_left m at k is = refl
  funcs_staged {v} (one_more {f} {fs} h r) m at k is =
      let (read, on) = finds t at is in
      let (this, rest) = one v m f at fs (funcs_from O t (length fs) (O.note m (rec 3 f.params f.slots 0))) k h on in
      rw (read, this) (ap (or_else (stage at f)) (funcs_staged r (O.note m (rec 3 f.params f.slots 0)) (at + size_f f) (noted v m f k) rest))

  pub program_staged : Words t → (p : Program) (i : ℕ) → read_table t ≡ parsed p i → (m : M) → Knows (nowhere (length p.arrays)) m → staged O t m ≡ over_program stage p
  unfolding staged over_program
  program_staged w p i e m k =
      let (is, within) = lists t p i w e in
      let (first, on) = begins t p is in
      rw first (funcs_staged within.funcs m (first_func p) k on)
