-- What the functions' proofs share: Tables (the walk over a whole table, function by function), Walked (over a tree's records), Laying (the words of what it lays),
-- Rolling (over the functions), Depths (CFUNC's slots), Costed (12, 13 AND THE TAPE: `emitted_is`, `written_is`, `compiled_is`), Deciding (the stages before it).
pub mod Tables
pub mod Walked
pub mod Laying
pub mod Rolling
pub mod Depths
pub mod Costed
pub mod Deciding
