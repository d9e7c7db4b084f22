-- The laws that other crates cite. Sizes (records of a tree). Reading a table: Leading, Heads (one record), Reading (what is read stands there), Writing (what
-- stands there is read), Headed (behind a head), Exactly (THE THEOREM: a table is read exactly if it is that of a tree within the ranges).
-- The first record at fault: Stopping (2 to 7); Beginning, Agreeing (trees whose tables begin alike), Firsts, FirstScope (8, 9), FirstStore (11); ScopeSamples (8 and 9 worked out).
-- The judgement that the compiler's theorem asks for: Judged, its contexts' laws (Contexts), and what stores nothing (Pure). That accepted scripts meet
-- it: Walks (a clean stage's parts), Scoping, Placing (the functions in order), Viewing (expressions), Declaring (what the stages carry), Judging
-- (statements, the program). Times (so many parts, turn by turn).
pub mod Computes
pub mod Sizes
pub mod Leading
pub mod Heads
pub mod Reading
pub mod Writing
pub mod Headed
pub mod Exactly
pub mod Stopping
pub mod Beginning
pub mod Agreeing
pub mod Firsts
pub mod FirstScope
pub mod FirstStore
pub mod ScopeSamples
pub mod Walks
pub mod Scoping
pub mod Judged
pub mod Contexts
pub mod Pure
pub mod Placing
pub mod Viewing
pub mod Declaring
pub mod Judging
pub mod Times
