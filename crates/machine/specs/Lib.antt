-- The machine. To be read: Run (its whole answer). Flat is how the code keeps the machine's state, for the private functions' contracts.
pub mod Run
pub mod Flat
