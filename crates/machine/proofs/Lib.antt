-- The laws that other crates cite, and what the functions' proofs share.
pub mod Computes
mod Passing
mod Copying
mod Rows
mod Piled
mod Relation
mod Moving
mod KeepsValues
mod KeepsLoops
mod KeepsEnds
mod Tables
mod Handing
mod Opening
mod KeepsCalls
mod Keeps
mod Lasting
mod Going
mod Beginning
mod Answering
mod Sofar
mod Admitting
