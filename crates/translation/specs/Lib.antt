-- Translate (the rules of 000), and then Compile (the compiler's whole answer).
pub mod Translate
pub mod Compile
