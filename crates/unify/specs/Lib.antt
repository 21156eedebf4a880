-- What unification past the refusals relies on and leaves.
pub mod Internal
-- The work buffer, and following by it.
pub mod Layout
pub mod Following
-- What two followed cells ask for.
pub mod Decided
pub mod Arms
pub mod Looking
-- Two nodes of one functor.
pub mod Joining
-- A turn of the code is a turn of the machine.
pub mod Going
-- The whole run.
pub mod Whole
-- The code's own machine.
pub mod Words
