-- What a core tree means, in one go, with the counter: the value of an expression, the state after a statement, a function as a map. It serves
-- the proofs: the rules that a reader believes are `Rules`, and `Follows` shows that they come to the same. Assumes nothing.
use Prim.Native.Nat.{ℕ, zero, suc, ◌-◌}
use mathlib.Core.List.{List, [], ◌∷◌}
use Rattle.word.specs.Value.{flip, op}
use Rattle.word.specs.Slots.{Slots, upd, fresh}
use Rattle.word.specs.Bytes.{fetch}
use Rattle.tape.specs.Core.{CExpr, LIT, VAR, GET, NOT, BIN, CALL, CExprs, NONE, MORE, CStmt, SKIP, ◌⨾◌, DEF, SET, PUT, FOR, CFunc, CProgram}
use Rattle.tape.specs.Rules.{World, tick, stored}

pub record State : Type 0 where
  pub slots : Slots
  pub world : World

-- a function: arguments and world to value and world
abbrev pub CFun : Type 0
CFun = List ℕ → World → ℕ × World

-- x becomes v, and the world w with one step more
unfoldable pub assign : Slots → ℕ → ℕ → World → State
assign τ x v w = record { slots = upd τ x v; world = tick w }

-- n passes, from i on
unfoldable pub cpasses : (ℕ → State → State) → ℕ → ℕ → State → State
cpasses body zero i st = st
cpasses body (suc n) i st = cpasses body n (suc i) (body i st)

module _ (lengths : List ℕ) (Φ : ℕ → CFun) where
  unfoldable mutual
    pub cvalue : CExpr → Slots → World → ℕ × World
    cvalue (LIT n) τ w = (n, w)
    cvalue (VAR x) τ w = (τ x, tick w)
    cvalue (GET a i) τ w = let (k, w₁) = cvalue i τ w in (fetch lengths w₁.bytes a k, tick w₁)
    cvalue (NOT e) τ w = let (v, w₁) = cvalue e τ w in (flip v, tick w₁)
    cvalue (BIN o l r) τ w = let (u, w₁) = cvalue l τ w in let (v, w₂) = cvalue r τ w₁ in (op o u v, tick w₂)
    cvalue (CALL f es) τ w = let (vs, w₁) = cvalues es τ w in Φ f vs (tick w₁)

    pub cvalues : CExprs → Slots → World → List ℕ × World
    cvalues NONE τ w = ([], w)
    cvalues (MORE e es) τ w = let (v, w₁) = cvalue e τ w in let (vs, w₂) = cvalues es τ w₁ in (v ∷ vs, w₂)

  unfoldable pub crun : CStmt → State → State
  crun SKIP st = st
  crun (s ⨾ t) st = crun t (crun s st)
  crun (DEF x e) st = let (v, w) = cvalue e st.slots st.world in assign st.slots x v w
  crun (SET x e) st = let (v, w) = cvalue e st.slots st.world in assign st.slots x v w
  crun (PUT a i e) st =
      let (k, w₁) = cvalue i st.slots st.world in
      let (v, w₂) = cvalue e st.slots w₁ in
      record { slots = st.slots; world = tick (stored lengths a k v w₂) }
  crun (FOR x q r s) st = cpasses (λ i st₁. crun s (assign st₁.slots x i st₁.world)) (r - q) q st

  -- RET reads its slot, as one step
  unfoldable pub cmeaning : CFunc → CFun
  cmeaning f arguments w =
      let st = crun f.body (record { slots = fresh arguments; world = w }) in (st.slots f.ret, tick st.world)

-- the last function's, where Φ has those below k, and the k-th comes next
unfoldable pub cexposed : List ℕ → (ℕ → CFun) → ℕ → List CFunc → CFun
cexposed lengths Φ k [] arguments w = (0, w)
cexposed lengths Φ k (f ∷ []) arguments w = cmeaning lengths Φ f arguments w
cexposed lengths Φ k (f ∷ g ∷ fs) arguments w = cexposed lengths (upd Φ k (cmeaning lengths Φ f)) (suc k) (g ∷ fs) arguments w

unfoldable pub cnothing : ℕ → CFun
cnothing f arguments w = (0, w)

unfoldable pub cprogram : CProgram → CFun
cprogram p = cexposed p.arrays cnothing 0 p.funcs
