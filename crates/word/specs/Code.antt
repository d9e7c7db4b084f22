-- Operation codes (01, "Words, values, arithmetic"): 1 to 13 on the tape, 14 and 15 in the script table also.
-- Assumes nothing: these are definitions.
use Rattle.std.specs.Prelude.{ℕ, cond, ◌==◌}
use Rattle.word.specs.Value.{Op, add, sub, mul, shl, shr, and, or, eq, ne, gt, lt, ge, le, land, lor}

unfoldable pub code : Op → ℕ
code add = 1
code sub = 2
code mul = 3
code shl = 4
code shr = 5
code and = 6
code or = 7
code eq = 8
code ne = 9
code gt = 10
code lt = 11
code ge = 12
code le = 13
code land = 14
code lor = 15

-- the operator of a code; a record with a code out of range is refused before its operator is asked for, so what is
-- said of those, that they are taken as 15, matters to nobody
unfoldable pub op_of : ℕ → Op
op_of k =
    cond (k == 1) add
    (cond (k == 2) sub
    (cond (k == 3) mul
    (cond (k == 4) shl
    (cond (k == 5) shr
    (cond (k == 6) and
    (cond (k == 7) or
    (cond (k == 8) eq
    (cond (k == 9) ne
    (cond (k == 10) gt
    (cond (k == 11) lt
    (cond (k == 12) ge
    (cond (k == 13) le
    (cond (k == 14) land
    lor)))))))))))))
