-- What the tables tell of the exposed function of an accepted tape. Assumes nothing.
use mathlib.Core.Path.{◌≡◌, sym, ap, ◌∙◌}
use mathlib.Core.Bool.{true}
use mathlib.Core.List.{List}
use Prim.Native.Nat.{ℕ, ◌-◌, ◌≤◌, ◌<◌}
use native.Mathlib.Omega.{arith}
use lib.ListN.{length, get_or}
use Rattle.word.specs.Records.{records, record_at}
use Rattle.tape.specs.Instruction.{code_of}
use Rattle.tape.specs.Check.{check}
use Rattle.tape.specs.Entries.{Entry, entries_of, exposed}
use Rattle.tape.proofs.Cases.{cfunc_fields}
use Rattle.tape.proofs.Places.{Passed}
use Rattle.tape.proofs.Declared.{exposed_there}
use Rattle.machine.specs.Flat.{places_of, is_accepted}
use Rattle.machine.proofs.Tables.{checked, place_there}

-- there is one, and the table has room for all
pub some_function : (t : List ℕ) → is_accepted (check t) ≡ true → (1 ≤ length (entries_of (code_of t))) × (length (entries_of (code_of t)) ≤ 16)
some_function t h =
    let p = checked t h in
    let x = exposed_there t p.0 p.1 in
    let i = x.index_is in
    let few = x.few in
    (omega arith, omega arith)

-- where the exposed function begins
module _ (t : List ℕ) (first : ℕ) (h : is_accepted (check t) ≡ true) (e : first ≡ get_or (places_of 0 (code_of t)) (length (entries_of (code_of t)) - 1) 0) where
  m : ℕ
  m = (checked t h).0

  a : Passed t m
  unfolding m
  a = (checked t h).1

  first_is : first ≡ (exposed_there t m a).place
  first_is =
      let x = exposed_there t m a in
      let i = x.index_is in
      let k : length (entries_of (code_of t)) - 1 ≡ x.index = omega arith in
      e ∙ ap (λ (j : ℕ). get_or (places_of 0 (code_of t)) j 0) k ∙ place_there t m a x.there

  pub first_there : first < records t
  first_there =
      let f = first_is in
      let there = (exposed_there t m a).there.there in
      omega arith

  pub first_params : (record_at t first).p ≡ (exposed (code_of t)).params
  first_params =
      let x = exposed_there t m a in
      ap (λ (j : ℕ). (record_at t j).p) first_is ∙ (cfunc_fields (record_at t x.place) x.there.is).0 ∙ sym (ap (λ (y : Entry). y.params) x.entry)
