-- What the code answers over the words of a table: Passes (what the stages after the first share), Scoped (8, 9).
pub mod Passes
pub mod Scoped
