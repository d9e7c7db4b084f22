-- What the functions' proofs share: Turns (a count by one record, one part, one function). What is counted of a table that was read: Tallying (expressions),
-- Counted (statements), Kept (what is kept of the functions), Totalled (THE THEOREM: 12, or the figures).
pub mod Turns
pub mod Tallying
pub mod Counted
pub mod Kept
pub mod Totalled
