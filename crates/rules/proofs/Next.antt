-- The rules as a function: which rule applies, if one does, and to what it leads. Assumes nothing.
use mathlib.Core.Bool.{Bool, true, false}
use mathlib.Core.List.{List, [], ◌∷◌}
use mathlib.Core.Option.{Option, none, some}
use Prim.Native.Nat.{ℕ, suc}
use lib.Dec.{ltb, eqb}
use lib.ListN.{length}
use Rattle.word.specs.Value.{op, flip}
use Rattle.word.specs.Slots.{upd}
use Rattle.word.specs.Bytes.{fetch}
use Rattle.tape.specs.Rules.{World, tick, stored}
use Rattle.rules.specs.Configurations.{Subst, Local, empty, bind, Term, val, var, bare, get, not, bin, call, body, Terms, nil, arg, Work, skip, seq, def, set, put, for, added, Fval}
use Rattle.rules.specs.Reduction.{reads, gets, flips, bins, calls, defs, sets, puts, passes, Label, quiet, counts}

pub data Next : Type 0 where
  stop : Next
  to : Label → World → List Local → Term → Next

pub data NextS : Type 0 where
  stop : NextS
  to : Label → World → List Local → Subst → Work → NextS

-- of arguments: all are values, or one of them goes on
pub data NextArgs : Type 0 where
  stop : NextArgs
  ready : List ℕ → NextArgs
  to : Label → World → List Local → Terms → NextArgs

unfoldable pub within : (Term → Term) → Next → Next
within g stop = stop
within g (to ℓ w μ e) = to ℓ w μ (g e)

unfoldable pub within_s : (Term → Work) → Subst → Next → NextS
within_s g σ stop = stop
within_s g σ (to ℓ w μ e) = to ℓ w μ σ (g e)

unfoldable pub first : Terms → Next → NextArgs
first es stop = stop
first es (to ℓ w μ e) = to ℓ w μ (arg e es)

unfoldable pub later : ℕ → NextArgs → NextArgs
later v stop = stop
later v (ready vs) = ready (v ∷ vs)
later v (to ℓ w μ es) = to ℓ w μ (arg (val v) es)

unfoldable pub onward : Work → NextS → NextS
onward t stop = stop
onward t (to ℓ w μ σ s) = to ℓ w μ σ (seq s t)

unfoldable pub in_body : Term → NextS → Next
in_body e₀ stop = stop
in_body e₀ (to ℓ w μ σ s) = to ℓ w μ (body σ s e₀)

-- by whether e is a value, and s skip
unfoldable pub by_val : {A : Type 0} → Term → (ℕ → A) → A → A
by_val (val v) f a = f v
by_val (var x) f a = a
by_val (bare x) f a = a
by_val (get z e) f a = a
by_val (not e) f a = a
by_val (bin o d e) f a = a
by_val (call g es) f a = a
by_val (body σ s e) f a = a

unfoldable pub by_skip : {A : Type 0} → Work → A → A → A
by_skip skip b a = b
by_skip (seq s t) b a = a
by_skip (def x e) b a = a
by_skip (set x e) b a = a
by_skip (put z i e) b a = a
by_skip (for x i r s) b a = a
by_skip (added x v s) b a = a

unfoldable pub from_local : Option ℕ → ℕ → World → List Local → Next
from_local none x w μ = stop
from_local (some v) x w μ = to (counts (reads x v)) (tick w) μ (val v)

unfoldable pub local : List Local → ℕ → World → Next
local [] x w = stop
local (m ∷ μ) x w = from_local (m x) x w (m ∷ μ)

unfoldable pub from_subst : Option ℕ → ℕ → World → List Local → Next
from_subst none x w μ = to quiet w μ (bare x)
from_subst (some v) x w μ = to (counts (reads x v)) (tick w) μ (val v)

unfoldable pub enter : Bool → ℕ → Fval → List ℕ → World → List Local → Next
enter true f d vs w μ = to (counts (calls f vs)) (tick w) (empty ∷ μ) (body (bind vs) d.stmt d.result)
enter false f d vs w μ = stop

unfoldable pub leave : List Local → ℕ → World → Next
leave [] v w = stop
leave (m ∷ μ) v w = to quiet w μ (val v)

unfoldable pub write : Label → ℕ → ℕ → World → List Local → Subst → NextS
write ℓ x v w [] σ = stop
write ℓ x v w (m ∷ μ) σ = to ℓ (tick w) (upd m x (some v) ∷ μ) σ skip

unfoldable pub pass : Bool → Bool → ℕ → ℕ → ℕ → Work → World → List Local → Subst → NextS
pass true t x i r s w μ σ = to (counts (passes x i)) (tick w) μ (upd σ x none) (seq (added x i s) (for x (suc i) r s))
pass false true x i r s w μ σ = to quiet w μ (upd σ x none) skip
pass false false x i r s w μ σ = stop

unfoldable pub add : Option ℕ → ℕ → ℕ → Work → World → List Local → Subst → NextS
add none x v s w μ σ = to quiet w μ (upd σ x (some v)) s
add (some u) x v s w μ σ = stop

module _ (lengths : List ℕ) (Λ : ℕ → Fval) where
  unfoldable pub applied : ℕ → World → List Local → NextArgs → Next
  applied f w μ stop = stop
  applied f w μ (ready vs) = enter (eqb (length vs) (Λ f).params) f (Λ f) vs w μ
  applied f w μ (to ℓ w₁ μ₁ es) = to ℓ w₁ μ₁ (call f es)

  unfoldable mutual
    pub next : Term → Subst → World → List Local → Next
    next (val v) σ w μ = stop
    next (var x) σ w μ = from_subst (σ x) x w μ
    next (bare x) σ w μ = local μ x w
    next (get z e) σ w μ = by_val e (λ i. to (counts (gets z i (fetch lengths w.bytes z i))) (tick w) μ (val (fetch lengths w.bytes z i))) (within (get z) (next e σ w μ))
    next (not e) σ w μ = by_val e (λ v. to (counts (flips v)) (tick w) μ (val (flip v))) (within not (next e σ w μ))
    next (bin o d e) σ w μ =
        by_val d (λ u. by_val e (λ v. to (counts (bins o u v)) (tick w) μ (val (op o u v))) (within (bin o (val u)) (next e σ w μ))) (within (λ x. bin o x e) (next d σ w μ))
    next (call f es) σ w μ = applied f w μ (next_args es σ w μ)
    next (body σ s e) ρ w μ = by_skip s (by_val e (λ v. leave μ v w) (within (body σ skip) (next e σ w μ))) (in_body e (next_s s σ w μ))

    pub next_args : Terms → Subst → World → List Local → NextArgs
    next_args nil σ w μ = ready []
    next_args (arg e es) σ w μ = by_val e (λ v. later v (next_args es σ w μ)) (first es (next e σ w μ))

    pub next_s : Work → Subst → World → List Local → NextS
    next_s skip σ w μ = stop
    next_s (seq s t) σ w μ = by_skip s (to quiet w μ σ t) (onward t (next_s s σ w μ))
    next_s (def x e) σ w μ = by_val e (λ v. write (counts (defs x v)) x v w μ σ) (within_s (def x) σ (next e σ w μ))
    next_s (set x e) σ w μ = by_val e (λ v. write (counts (sets x v)) x v w μ σ) (within_s (set x) σ (next e σ w μ))
    next_s (put z d e) σ w μ =
        by_val d (λ i. by_val e (λ v. to (counts (puts z i v)) (tick (stored lengths z i v w)) μ σ skip) (within_s (put z (val i)) σ (next e σ w μ)))
        (within_s (λ x. put z x e) σ (next d σ w μ))
    next_s (for x i r s) σ w μ = pass (ltb i r) (eqb i r) x i r s w μ σ
    next_s (added x v s) σ w μ = add (σ x) x v s w μ σ
