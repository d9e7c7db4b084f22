-- The core tape. To be read in this order: Core (its tree), Instruction (a record by itself), Tape (the records of a tree), Steps, Scan (where a
-- check stands), Faults (of one record, 22 to 29), Check (21 to 30), Held (counts that are held at the limit), Entries (what a tape declares), Rules (how a
-- tape runs).
pub mod Core
pub mod Instruction
pub mod Tape
pub mod Steps
pub mod Scan
pub mod Faults
pub mod Check
pub mod Held
pub mod Entries
pub mod Rules
pub mod Named
