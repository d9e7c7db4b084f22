pub mod Computes
pub mod Swatches
pub mod Runs
pub mod Compiles
pub mod Refuses
pub mod Reductions
