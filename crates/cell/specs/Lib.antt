-- Definitions: what a word says and what the calls answer.
pub mod Word
pub mod Fixnum
pub mod Kinds
pub mod Answers
-- Laws of them.
pub mod Rows
pub mod RoundTrips
