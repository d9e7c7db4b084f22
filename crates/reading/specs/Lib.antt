-- What the code of the first stage answers over the words of a table: Structure (1 to 7).
pub mod Structure
