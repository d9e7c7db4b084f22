-- The cost as the code counts it, over the words of a table: Counting (expressions and statements), Totals (functions, the whole table).
pub mod Counting
pub mod Totals
