-- What a statement leaves visible: nothing that a loop's body or a branch declared. Assumes nothing.
use mathlib.Core.Path.{◌≡◌, refl, ap, ◌∙◌}
use Prim.Native.Nat.{ℕ}
use Rattle.script.specs.Tree.{Expr, Stmt, for, if}
use Rattle.script.specs.Stage.{Walked, goes, stops}
use Rattle.script.specs.Scope.{Names, close, scope_s}
use Rattle.script.proofs.Walks.{stopped, after_goes, onward_goes, refuse_goes}

-- what was visible before, and what was declared inside
abbrev pub closed : Names → Names → Names
closed n k = record { seen = n.seen; declared = k.declared }

pub close_goes : (n : Names) (w : Walked Names) {m : Names} → close n w ≡ goes m → (k : Names) × (w ≡ goes k) × (m ≡ closed n k)
unfolding close
close_goes n (goes k) e = (k, refl, cc)
close_goes n (stops number place) e = absurd (stopped e)

unchanged : (n : Names) (w : Walked Names) {m : Names} → close n w ≡ goes m → m.seen ≡ n.seen
unchanged n w e = ap (λ (z : Names). z.seen) (close_goes n w e).2

-- "a FOR's slot only in its body"
pub for_closes : (n : Names) (at x q r : ℕ) (s : Stmt) {m : Names} → scope_s n at (for x q r s) ≡ goes m → m.seen ≡ n.seen
unfolding scope_s
for_closes n at x q r s e = unchanged n _ (refuse_goes (n.declared x) 8 at e).1

-- "to the end of the innermost branch"
pub if_closes : (n : Names) (at : ℕ) (c : Expr) (s t : Stmt) {m : Names} → scope_s n at (if c s t) ≡ goes m → m.seen ≡ n.seen
unfolding scope_s
if_closes n at c s t e =
    let r = onward_goes _ (after_goes _ e).1 in
    unchanged r.0 _ r.2 ∙ unchanged n _ r.1
