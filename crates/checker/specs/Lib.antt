-- How the code of the check keeps the state of tape's Scan: Standing (its numbers and rows), Ready (the ranges that hold between records).
pub mod Standing
pub mod Ready
