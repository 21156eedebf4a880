-- The rules in cases, and what a machine shows.
pub mod Cases
pub mod Seen
-- What holds of a running machine.
pub mod Weight
pub mod Occurs
pub mod Live
pub mod Standing
-- What a whole run keeps.
pub mod Sound
pub mod Agreement
pub mod Checked
pub mod PlainThenTest
pub mod Flat
-- What the calls promise.
pub mod Asked
pub mod Theorems
-- The bench heaps.
pub mod Bench
