-- 000's rules. To be read in this order: Configurations (terms while they run, and configurations), Reduction (the rules, each under its name),
-- Correspondence (what it is for a machine to stand where the rules stand).
pub mod Configurations
pub mod Reduction
pub mod Correspondence
