-- What the functions' proofs share: Blanks (24), Sets (slots as bits), Held, Rows, Search, SlotRule (29), Clear, Bounds, Stores, Allowed, Walk (the
-- scan, record by record), Scanned (its state stands for the scan's), Leaving, Ways (through the scan's loops).
pub mod Blanks
pub mod Sets
pub mod Held
pub mod Rows
pub mod Search
pub mod SlotRule
pub mod Clear
pub mod Bounds
pub mod Stores
pub mod Allowed
pub mod Walk
pub mod Scanned
pub mod Leaving
pub mod Ways
