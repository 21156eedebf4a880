-- Definitions: the rules of a copy, what the call comes to, and what a copy means.
pub mod Rules
pub mod Calls
pub mod Meaning
pub mod Examples
-- The scan keeps an invariant, cell by cell.
pub mod Tally
pub mod Runs
pub mod Inv
pub mod Follow
pub mod Steps
pub mod Whole
-- So the copy means what it should.
pub mod Same
pub mod Formed
pub mod Finite
pub mod Promise
-- And the code computes it.
pub mod Buffer
pub mod Asks
pub mod Followed
pub mod Arms
pub mod Turn
pub mod Copier
pub mod Copying
