-- What a record says, by its kind. Assumes nothing.
use mathlib.Core.Path.{◌≡◌, refl}
use mathlib.Core.Bool.{Bool, true, false, cond}
use Prim.Native.Nat.{ℕ}
use borrow.Author.Tests.{eqb-true}
use native.Mathlib.Omega.{arith}
use lib.Dec.{eqb}
use Rattle.word.specs.declared.Record.{Record}
use Rattle.tape.specs.Instruction.{Instruction, program, array, cfunc, lit, var, get, not, bin, call, def, set, put, for, end, ret, other, read}

-- a property of each instruction, where the record has its kind
pub record ByKind (P : Instruction → Type 0) (x : Record) : Type 0 where
  pub on_program : x.kind ≡ 1 → P (program x.p x.q)
  pub on_array : x.kind ≡ 2 → P (array x.p)
  pub on_cfunc : x.kind ≡ 3 → P (cfunc x.p x.q)
  pub on_lit : x.kind ≡ 10 → P (lit x.p)
  pub on_var : x.kind ≡ 11 → P (var x.p)
  pub on_get : x.kind ≡ 12 → P (get x.p)
  pub on_not : x.kind ≡ 13 → P not
  pub on_bin : x.kind ≡ 14 → P (bin x.p)
  pub on_call : x.kind ≡ 15 → P (call x.p)
  pub on_def : x.kind ≡ 16 → P (def x.p)
  pub on_set : x.kind ≡ 17 → P (set x.p)
  pub on_put : x.kind ≡ 18 → P (put x.p)
  pub on_for : x.kind ≡ 19 → P (for x.p x.q x.r)
  pub on_end : x.kind ≡ 20 → P end
  pub on_ret : x.kind ≡ 21 → P (ret x.p)
  pub on_other : P other

choose : (P : Instruction → Type 0) (a b : ℕ) {x y : Instruction} → (a ≡ b → P x) → P y → P (cond (eqb a b) x y)
choose P a b {x} {y} h k = go (eqb a b) refl
  where
    go : (t : Bool) → eqb a b ≡ t → P (cond t x y)
    go true e = h (eqb-true a b e)
    go false e = k

-- it holds of what the record says
pub by_kind : (P : Instruction → Type 0) (x : Record) → ByKind P x → P (read x)
unfolding read
by_kind P x h =
    choose P x.kind 1 h.on_program
    (choose P x.kind 2 h.on_array
    (choose P x.kind 3 h.on_cfunc
    (choose P x.kind 10 h.on_lit
    (choose P x.kind 11 h.on_var
    (choose P x.kind 12 h.on_get
    (choose P x.kind 13 h.on_not
    (choose P x.kind 14 h.on_bin
    (choose P x.kind 15 h.on_call
    (choose P x.kind 16 h.on_def
    (choose P x.kind 17 h.on_set
    (choose P x.kind 18 h.on_put
    (choose P x.kind 19 h.on_for
    (choose P x.kind 20 h.on_end
    (choose P x.kind 21 h.on_ret h.on_other))))))))))))))

-- what a record of each kind says
module _ (x : Record) where
  pub read_program : x.kind ≡ 1 → read x ≡ program x.p x.q
  unfolding read
  read_program e = rw e refl

  pub read_array : x.kind ≡ 2 → read x ≡ array x.p
  unfolding read
  read_array e = rw e refl

  pub read_cfunc : x.kind ≡ 3 → read x ≡ cfunc x.p x.q
  unfolding read
  read_cfunc e = rw e refl

  pub read_lit : x.kind ≡ 10 → read x ≡ lit x.p
  unfolding read
  read_lit e = rw e refl

  pub read_var : x.kind ≡ 11 → read x ≡ var x.p
  unfolding read
  read_var e = rw e refl

  pub read_get : x.kind ≡ 12 → read x ≡ get x.p
  unfolding read
  read_get e = rw e refl

  pub read_not : x.kind ≡ 13 → read x ≡ not
  unfolding read
  read_not e = rw e refl

  pub read_bin : x.kind ≡ 14 → read x ≡ bin x.p
  unfolding read
  read_bin e = rw e refl

  pub read_call : x.kind ≡ 15 → read x ≡ call x.p
  unfolding read
  read_call e = rw e refl

  pub read_def : x.kind ≡ 16 → read x ≡ def x.p
  unfolding read
  read_def e = rw e refl

  pub read_set : x.kind ≡ 17 → read x ≡ set x.p
  unfolding read
  read_set e = rw e refl

  pub read_put : x.kind ≡ 18 → read x ≡ put x.p
  unfolding read
  read_put e = rw e refl

  pub read_for : x.kind ≡ 19 → read x ≡ for x.p x.q x.r
  unfolding read
  read_for e = rw e refl

  pub read_end : x.kind ≡ 20 → read x ≡ end
  unfolding read
  read_end e = rw e refl

  pub read_ret : x.kind ≡ 21 → read x ≡ ret x.p
  unfolding read
  read_ret e = rw e refl

-- ---- and back: what the fields are, where a record says FOR, or CFUNC
clash : {A : Type 0} → ◌≡◌ {A = ℕ} 0 1 → A
clash e = absurd (omega arith)

pub for_fields : (x : Record) {a b c : ℕ} → read x ≡ for a b c → (x.p ≡ a) × (x.q ≡ b) × (x.r ≡ c)
for_fields x {a} {b} {c} =
    by_kind (λ i. i ≡ for a b c → (x.p ≡ a) × (x.q ≡ b) × (x.r ≡ c)) x
    (record {
      on_program = λ k e. clash (cc);
      on_array = λ k e. clash (cc);
      on_cfunc = λ k e. clash (cc);
      on_lit = λ k e. clash (cc);
      on_var = λ k e. clash (cc);
      on_get = λ k e. clash (cc);
      on_not = λ k e. clash (cc);
      on_bin = λ k e. clash (cc);
      on_call = λ k e. clash (cc);
      on_def = λ k e. clash (cc);
      on_set = λ k e. clash (cc);
      on_put = λ k e. clash (cc);
      on_for = λ k e. (cc, cc, cc);
      on_end = λ k e. clash (cc);
      on_ret = λ k e. clash (cc);
      on_other = λ e. clash (cc);
    })

pub cfunc_fields : (x : Record) {a b : ℕ} → read x ≡ cfunc a b → (x.p ≡ a) × (x.q ≡ b)
cfunc_fields x {a} {b} =
    by_kind (λ i. i ≡ cfunc a b → (x.p ≡ a) × (x.q ≡ b)) x
    (record {
      on_program = λ k e. clash (cc);
      on_array = λ k e. clash (cc);
      on_cfunc = λ k e. (cc, cc);
      on_lit = λ k e. clash (cc);
      on_var = λ k e. clash (cc);
      on_get = λ k e. clash (cc);
      on_not = λ k e. clash (cc);
      on_bin = λ k e. clash (cc);
      on_call = λ k e. clash (cc);
      on_def = λ k e. clash (cc);
      on_set = λ k e. clash (cc);
      on_put = λ k e. clash (cc);
      on_for = λ k e. clash (cc);
      on_end = λ k e. clash (cc);
      on_ret = λ k e. clash (cc);
      on_other = λ e. clash (cc);
    })
