-- The laws that other crates cite. A record by itself: Cases, Reading, Written (words and code), Declaring. The
-- check: Closing, Places (the scan's state before each record), Steady (its ranges), Entered, Placing, Positions (where functions and arrays stand), Declared
-- (the exposed function, the arrays), Skipping (past a loop), Asked (what a record asks for). Core trees: Meaning, Sound, Costs, Staying (what stays visible),
-- Sizes (records), Limits (what the check asks of a tree). What the check accepts: Knowing, Waiting, Half, Finished, Stands,
-- Postfix (the trees of a tape that is read half), Accepted (an accepted tape is that of a sound tree within the limits), Scanning, Admitted (and each such
-- tree's tape is accepted). The rules: Tails, Settling, Running (counted steps), Entering, Follows (on the tape of a tree they do what the tree means),
-- Counted, Alike (lockstep), Worded (values stay words). Counts (steps, held at the limit).
pub mod Computes
pub mod Cases
pub mod Reading
pub mod Written
pub mod Declaring
pub mod Closing
pub mod Places
pub mod Steady
pub mod Entered
pub mod Placing
pub mod Positions
pub mod Declared
pub mod Skipping
pub mod Meaning
pub mod Sound
pub mod Costs
pub mod Staying
pub mod Sizes
pub mod Limits
pub mod Asked
pub mod Knowing
pub mod Waiting
pub mod Half
pub mod Finished
pub mod Stands
pub mod Postfix
pub mod Accepted
pub mod Scanning
pub mod Admitted
pub mod Tails
pub mod Settling
pub mod Running
pub mod Entering
pub mod Follows
pub mod Counted
pub mod Alike
pub mod Worded
pub mod Counts
