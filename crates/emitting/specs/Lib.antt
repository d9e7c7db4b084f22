-- How the code writes a translation: Emitting (the sheet that is written), Walking (the walk over a statement).
pub mod Emitting
pub mod Walking
