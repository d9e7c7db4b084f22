-- What the functions' proofs share: Found (what the cursor finds, how a table begins), Past (past a tree's records), Walking (the walks, turn by turn),
-- Together (a walk and a stage go together; the functions). Scope: Seeking (expressions), ScopeSteps (as the code steps), ScopeTogether (`scoped_is`: of a table that was
-- read it is what script's `scope_f` says of the tree).
pub mod Found
pub mod Past
pub mod Walking
pub mod Together
pub mod Seeking
pub mod ScopeSteps
pub mod ScopeTogether
