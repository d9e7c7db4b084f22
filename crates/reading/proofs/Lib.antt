-- What the functions' proofs share: Tested (the record that is due), Descending (expressions and statements), Programs (the whole: `clean_read`,
-- `read_clean` and `refused_fault` say that it answers what script's `read_table` does).
pub mod Tested
pub mod Descending
pub mod Programs
