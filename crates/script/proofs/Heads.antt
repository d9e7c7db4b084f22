-- What a script record says, by its kind; any other kind is taken for the last one. Assumes nothing.
use mathlib.Core.Path.{◌≡◌, refl}
use borrow.Author.Tests.{ne_eqb}
use Rattle.word.specs.declared.Record.{Record}
use Rattle.script.specs.Table.{NUM, TRUE, FALSE, VAR, GET, LNOT, BNOT, BIN, CALL, SKIP, SEQ, DEF, SET, PUT, FOR, IF, RETURN, read_e, read_s}

module _ (x : Record) where
  pub head_num : x.kind ≡ 20 → read_e x ≡ NUM x.p
  unfolding read_e
  head_num e = rw e refl

  pub head_true : x.kind ≡ 21 → read_e x ≡ TRUE
  unfolding read_e
  head_true e = rw e refl

  pub head_false : x.kind ≡ 22 → read_e x ≡ FALSE
  unfolding read_e
  head_false e = rw e refl

  pub head_var : x.kind ≡ 23 → read_e x ≡ VAR x.p
  unfolding read_e
  head_var e = rw e refl

  pub head_get : x.kind ≡ 24 → read_e x ≡ GET x.p
  unfolding read_e
  head_get e = rw e refl

  pub head_lnot : x.kind ≡ 25 → read_e x ≡ LNOT
  unfolding read_e
  head_lnot e = rw e refl

  pub head_bnot : x.kind ≡ 26 → read_e x ≡ BNOT
  unfolding read_e
  head_bnot e = rw e refl

  pub head_bin : x.kind ≡ 27 → read_e x ≡ BIN x.p
  unfolding read_e
  head_bin e = rw e refl

  pub head_call : (x.kind ≡ 20 → ⊥) → (x.kind ≡ 21 → ⊥) → (x.kind ≡ 22 → ⊥) → (x.kind ≡ 23 → ⊥) → (x.kind ≡ 24 → ⊥) → (x.kind ≡ 25 → ⊥)
      → (x.kind ≡ 26 → ⊥) → (x.kind ≡ 27 → ⊥) → read_e x ≡ CALL x.p
  unfolding read_e
  head_call a b c d e f g h =
      rw (ne_eqb _ 20 a, ne_eqb _ 21 b, ne_eqb _ 22 c, ne_eqb _ 23 d, ne_eqb _ 24 e, ne_eqb _ 25 f, ne_eqb _ 26 g, ne_eqb _ 27 h) refl

  pub head_skip : x.kind ≡ 30 → read_s x ≡ SKIP
  unfolding read_s
  head_skip e = rw e refl

  pub head_seq : x.kind ≡ 31 → read_s x ≡ SEQ x.p
  unfolding read_s
  head_seq e = rw e refl

  pub head_def : x.kind ≡ 32 → read_s x ≡ DEF x.p
  unfolding read_s
  head_def e = rw e refl

  pub head_set : x.kind ≡ 33 → read_s x ≡ SET x.p
  unfolding read_s
  head_set e = rw e refl

  pub head_put : x.kind ≡ 34 → read_s x ≡ PUT x.p
  unfolding read_s
  head_put e = rw e refl

  pub head_for : x.kind ≡ 35 → read_s x ≡ FOR x.p x.q x.r
  unfolding read_s
  head_for e = rw e refl

  pub head_if : x.kind ≡ 36 → read_s x ≡ IF
  unfolding read_s
  head_if e = rw e refl

  pub head_return : (x.kind ≡ 30 → ⊥) → (x.kind ≡ 31 → ⊥) → (x.kind ≡ 32 → ⊥) → (x.kind ≡ 33 → ⊥) → (x.kind ≡ 34 → ⊥) → (x.kind ≡ 35 → ⊥)
      → (x.kind ≡ 36 → ⊥) → read_s x ≡ RETURN
  unfolding read_s
  head_return a b c d e f g =
      rw (ne_eqb _ 30 a, ne_eqb _ 31 b, ne_eqb _ 32 c, ne_eqb _ 33 d, ne_eqb _ 34 e, ne_eqb _ 35 f, ne_eqb _ 36 g) refl
