-- The script language. To be read in this order: Tree (scripts), Table (a record by itself), Parse (reading a table, 1 to 7), Written (the table of a tree,
-- ranges and depths), Stage (what a stage is), Scope (8, 9), Types (10), Stores (11), Plain (what a script means), Shape (how
-- many parts a record has, and so many one after another).
pub mod Tree
pub mod Table
pub mod Parse
pub mod Written
pub mod Stage
pub mod Scope
pub mod Types
pub mod Stores
pub mod Plain
pub mod Shape
