-- What the functions' proofs share. Stores: Storing (`stored_is`). Types: Gathering (expressions, turn by turn), TypeExprs, TypeTogether
-- (`typed_is`). PassSamples: small tables worked out. Verdict (all stages, one after another).
pub mod Storing
pub mod Gathering
pub mod TypeExprs
pub mod TypeTogether
pub mod PassSamples
pub mod Verdict
