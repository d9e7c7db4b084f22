-- The laws that other crates cite, and what the functions' proofs share.
pub mod Laws
pub mod Memory
pub mod Records
pub mod Walk
pub mod Members
pub mod Refused
pub mod Reasons
pub mod Computes
