-- The cases that are computed, and what the promises speak of. To be read in this order: Listing (records by name), Swatches, Refusals; Runs, Compiles.
pub mod Listing
pub mod Swatches
pub mod Refusals
pub mod Runs
pub mod Compiles
