-- The rules as a function (Next) and that there is no second way to reduce (Deterministic); where the slots of machine and rules agree (Agreeing); contexts
-- round a reduction (Around); machine and rules side by side, tree by tree (Locked); THE THEOREM (Standing).
pub mod Next
pub mod Deterministic
pub mod Agreeing
pub mod Around
pub mod Locked
pub mod Standing
