-- 8 and 9, worked out on a SET of each kind of slot: one that is not visible, a parameter, and one that was declared. Assumes nothing.
use mathlib.Core.Path.{◌≡◌, refl}
use Rattle.script.specs.Tree.{Stmt, Func, num, def, set, seq, next, done}
use Rattle.script.specs.Stage.{clean, fault}
use Rattle.script.specs.Scope.{scope_f}
use Rattle.script.proofs.Computes.{script_computes}

-- a function with one parameter, slot 0, at record 5
of : Stmt → Func
of s = record { params = 1; slots = 2; body = s }

set_hidden : scope_f 5 (of (set 1 (num 7))) ≡ fault 8 6
unfolding script_computes of
set_hidden = refl

set_parameter : scope_f 5 (of (set 0 (num 7))) ≡ fault 9 6
unfolding script_computes of
set_parameter = refl

set_declared : scope_f 5 (of (seq (next (def 1 (num 7)) (next (set 1 (num 8)) done)))) ≡ clean
unfolding script_computes of
set_declared = refl
