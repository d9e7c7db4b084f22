-- What the functions' proofs share: Stepping (a walk by one record).
pub mod Stepping
