-- Definitions: what cyclic means, what the calls answer, and what a walk leaves in its tables.
pub mod Graph
pub mod Some
pub mod Sum
pub mod Kids
pub mod Links
pub mod Verdict
pub mod Room
pub mod Tables
pub mod Met
pub mod Counted
-- Laws of them.
pub mod Bound
pub mod Most
pub mod Ways
pub mod Cyclic
pub mod Reached
pub mod Answers
pub mod Examples
