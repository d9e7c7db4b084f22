-- A walk by one record, and one of several parts: how what the code does at a record and in a loop is what the walk does. Assumes nothing.
use mathlib.Core.Path.{◌≡◌, ap, ◌∙◌}
use mathlib.Core.List.{List}
use Prim.Native.Nat.{ℕ, suc, ◌-◌, ◌<◌}
use native.Mathlib.Omega.{arith}
use Rattle.word.specs.Reader.{read_at}
use Rattle.word.specs.declared.Record.{Record}
use Rattle.word.specs.declared.reader.Reader.{Reader}
use Rattle.std.specs.Prelude.{Some, None}
use Rattle.script.specs.Table.{read_e, read_s}
use Rattle.script.specs.Shape.{parts_in, times}
use Rattle.translation.specs.Translate.{Layout}
use Rattle.emitting.specs.Walking.{Desk, desk, on, own, enter_e, walk_e, head_s, enter_s, walk_s}

-- ---- one record
module _ (params t : List ℕ) where
  pub walk_e_none : (left : ℕ) (z : Desk) → left ≡ 0 → walk_e params t left z ≡ z
  unfolding walk_e
  walk_e_none left z e = ap (λ (n : ℕ). walk_e params t n z) e

  walk_e_on : (left : ℕ) (z : Desk) → 0 < left → walk_e params t left z ≡ enter_e params t (walk_e params t (left - 1)) z (read_at t z.read)
  unfolding walk_e
  walk_e_on left z h =
      let e : left ≡ suc (left - 1) = omega arith in
      ap (λ (n : ℕ). walk_e params t n z) e

  pub walk_e_end : (left : ℕ) (z : Desk) → 0 < left → read_at t z.read ≡ None → walk_e params t left z ≡ z
  unfolding enter_e
  walk_e_end left z h e = walk_e_on left z h ∙ ap (enter_e params t (walk_e params t (left - 1)) z) e

  pub walk_e_found : (left : ℕ) (z : Desk) (x : Record) (i : Reader) → 0 < left → read_at t z.read ≡ Some (x, i) → walk_e params t left z
      ≡ on (own (read_e x)) (times (parts_in params (read_e x)) (walk_e params t (left - 1)) (desk z.sheet i.at))
  unfolding enter_e
  walk_e_found left z x i h e = walk_e_on left z h ∙ ap (enter_e params t (walk_e params t (left - 1)) z) e

  module _ (l : Layout) where
    pub walk_s_none : (left d : ℕ) (z : Desk) → left ≡ 0 → walk_s params t l left d z ≡ z
    unfolding walk_s
    walk_s_none left d z e = ap (λ (n : ℕ). walk_s params t l n d z) e

    walk_s_on : (left d : ℕ) (z : Desk) → 0 < left
        → walk_s params t l left d z ≡ enter_s params t l (walk_s params t l (left - 1)) d z (read_at t z.read)
    unfolding walk_s
    walk_s_on left d z h =
        let e : left ≡ suc (left - 1) = omega arith in
        ap (λ (n : ℕ). walk_s params t l n d z) e

    pub walk_s_end : (left d : ℕ) (z : Desk) → 0 < left → read_at t z.read ≡ None → walk_s params t l left d z ≡ z
    unfolding enter_s
    walk_s_end left d z h e = walk_s_on left d z h ∙ ap (enter_s params t l (walk_s params t l (left - 1)) d z) e

    pub walk_s_found : (left d : ℕ) (z : Desk) (x : Record) (i : Reader) → 0 < left → read_at t z.read ≡ Some (x, i)
        → walk_s params t l left d z ≡ head_s params t l (walk_s params t l (left - 1)) d (desk z.sheet i.at) (read_s x)
    unfolding enter_s
    walk_s_found left d z x i h e = walk_s_on left d z h ∙ ap (enter_s params t l (walk_s params t l (left - 1)) d z) e
