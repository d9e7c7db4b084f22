-- What every other crate speaks in. To be read in this order: Value (values and operators), Code (the operators' codes), Types,
-- Records (four words to a record), Reader (a cursor over them), Refusals, Reasons (their numbers), Slots, Bytes (the arrays), Sets (of slots).
pub mod Value
pub mod Code
pub mod Types
pub mod Records
pub mod Reader
pub mod Refusals
pub mod Reasons
pub mod Slots
pub mod Bytes
pub mod Sets
