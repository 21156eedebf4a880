-- Definitions: unification on words, what the calls answer, and what cells, trees and terms are to it.
pub mod Machine
pub mod Calls
pub mod Trees
pub mod Substitution
-- The rules in cases, and what the cells of a store show and mean.
pub mod Cases
pub mod Nodes
pub mod Means
-- What a machine shows, what a write does, and what holds of a running machine.
pub mod Seen
pub mod Sums
pub mod Write
pub mod Weight
pub mod Wrote
pub mod Occurs
pub mod Live
pub mod Standing
-- What a whole run keeps.
pub mod Agreement
pub mod FiniteTerms
pub mod TermOf
pub mod Checked
pub mod PlainThenTest
pub mod Flat
-- What the calls promise.
pub mod Asked
pub mod Theorems
