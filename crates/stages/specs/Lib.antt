-- Judge (1 to 11, one after another); and what the code answers over the words of a table: Typed (10), Stored (11).
pub mod Judge
pub mod Typed
pub mod Stored
