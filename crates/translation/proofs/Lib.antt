-- The laws that other crates cite. The translation is correct: Yields (how core expressions compute), Expressions (translated ones), Relation (the simulation
-- relation), Masking, Frame, Idle, Acting, Branches, Active (a statement under it), Correct (THE THEOREM). What comes out is sound on the tape: Standing,
-- Translated. Both, of an accepted script: Accepted. Its figures: Figures (steps), Sizes (records), Heights (slots, operands), Ranges (fields, FORs). So its
-- tape is within the machine's limits, and accepted: Limits.
pub mod Computes
pub mod Figures
pub mod Yields
pub mod Expressions
pub mod Relation
pub mod Masking
pub mod Frame
pub mod Idle
pub mod Acting
pub mod Branches
pub mod Active
pub mod Correct
pub mod Standing
pub mod Translated
pub mod Accepted
pub mod Sizes
pub mod Heights
pub mod Ranges
pub mod Limits
