-- Definitions: the rules of the trail and the marks, and a state with what a call on it comes to.
pub mod Rules
pub mod State
-- The same rules as facts.
pub mod Facts
-- The set of cells with which the code finds entries that are alike.
pub mod Seen
