-- The walk over a whole table, function by function, and the answer that is made of it. Assumes nothing.
use mathlib.Core.Path.{◌≡◌, refl, ap, ◌∙◌}
use mathlib.Core.List.{List}
use Prim.Native.Nat.{ℕ, suc, ◌+◌, ◌-◌, ◌*◌, ◌≤◌, ◌<◌, min}
use native.Mathlib.Omega.{arith}
use borrow.Author.Tests.{le-leb, lt-leb}
use lib.ListN.{length, replicate, set as keep}
use Rattle.word.specs.Reader.{read_at}
use Rattle.word.specs.declared.Record.{Record}
use Rattle.word.specs.declared.reader.Reader.{Reader}
use Rattle.std.specs.Prelude.{Some, None}
use Rattle.emitting.specs.Emitting.{sheet, place}
use Rattle.emitting.specs.Walking.{Desk, desk}
use Rattle.compiler.specs.Writing.{Rolls, rolls, copy_by, copy, body_of, enter_f, walk_f, walk_fs, blank, enter_p, walk_p, answered, fitting, unless_cost, known, write_out}
use Rattle.emitting.specs.declared.emitter.Emitter.{Emitter}
use Rattle.std.specs.Prelude.{Ok, Err}
use Rattle.word.specs.Refusals.{refuse}
use Rattle.word.specs.declared.Refusal.{Refusal}
use Rattle.translation.specs.Compile.{Compiled}
use Rattle.translation.specs.declared.Tape.{Tape}
use Rattle.script.specs.Shape.{times}

-- ---- a whole table
module _ (t : List ℕ) where
  pub copy_end : (z : Desk) → read_at t z.read ≡ None → copy t z ≡ z
  unfolding copy copy_by
  copy_end z e = ap (copy_by t z) e

  pub copy_found : (z : Desk) (x : Record) (i : Reader) → read_at t z.read ≡ Some (x, i) → copy t z ≡ desk (place x z.sheet) i.at
  unfolding copy copy_by
  copy_found z x i e = ap (copy_by t z) e

module _ (t depths : List ℕ) where
  pub walk_f_end : (f : ℕ) (z : Rolls) → read_at t z.desk.read ≡ None → walk_f t depths f z ≡ z
  unfolding walk_f enter_f
  walk_f_end f z e = ap (enter_f t depths f z) e

  pub walk_f_found : (f : ℕ) (z : Rolls) (x : Record) (i : Reader) → read_at t z.desk.read ≡ Some (x, i)
      → walk_f t depths f z ≡ rolls (body_of t depths f (min x.q 32) x i z) (keep z.params f x.p)
  unfolding walk_f enter_f
  walk_f_found f z x i e = ap (enter_f t depths f z) e

  -- functions f to n
  module _ (n f : ℕ) (z : Rolls) where
    pub walk_fs_on : f < n → walk_fs t depths (n - f) f z ≡ walk_fs t depths (n - (f + 1)) (f + 1) (walk_f t depths f z)
    unfolding walk_fs
    walk_fs_on h =
        let e : n - f ≡ suc (n - (f + 1)) = omega arith in
        ap (λ (k : ℕ). walk_fs t depths k f z) e

    pub walk_fs_end : n ≤ f → walk_fs t depths (n - f) f z ≡ z.desk.sheet.words
    unfolding walk_fs
    walk_fs_end h =
        let e : n - f ≡ 0 = omega arith in
        ap (λ (k : ℕ). walk_fs t depths k f z) e

  pub walk_p_end : (out : List ℕ) → read_at t 0 ≡ None → walk_p t depths out ≡ out
  unfolding walk_p enter_p
  walk_p_end out e = ap (enter_p t depths out) e

  pub walk_p_found : (out : List ℕ) (x : Record) (i : Reader) → read_at t 0 ≡ Some (x, i)
      → walk_p t depths out ≡ walk_fs t depths x.p 0 (rolls (times x.q (copy t) (copy t (desk (blank out) 0))) (replicate 16 0))
  unfolding walk_p enter_p
  walk_p_found out x i e = ap (enter_p t depths out) e

-- where the whole walk begins
pub start_is : (out : List ℕ) (e : Emitter) (i : ℕ) → e.at ≡ 0 → i ≡ 0 → desk (sheet out e) i ≡ desk (blank out) 0
start_is out e i p r = λ j. desk (record { words = out; at = p j }) (r j)

-- ---- the answer
module _ (t out : List ℕ) where
  pub answers_12 : (r : Refusal) → (known t).cost ≡ Err r → write_out t out ≡ answered (Err r) out
  unfolding write_out unless_cost
  answers_12 r e = ap (λ (k : Compiled). unless_cost t out k (known t).depths) e

  module _ (w : Tape) (e : (known t).cost ≡ Ok w) where
    pub answers_13 : length out < w.records * 4 → write_out t out ≡ answered (refuse 13 w.records) out
    unfolding write_out unless_cost fitting
    answers_13 h = ap (λ (k : Compiled). unless_cost t out k (known t).depths) e ∙ rw (lt-leb (w.records * 4) (length out) h) refl

    pub answers_tape : w.records * 4 ≤ length out → write_out t out ≡ answered (Ok w) (walk_p t (known t).depths out)
    unfolding write_out unless_cost fitting
    answers_tape h = ap (λ (k : Compiled). unless_cost t out k (known t).depths) e ∙ rw (le-leb (w.records * 4) (length out) h) refl
