-- How the code goes over a whole table and answers, by the cost that was counted: Writing.
pub mod Writing
