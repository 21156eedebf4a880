-- Laws of what the library says, which other crates' proofs need too.
pub mod Pairs
-- Laws that only the proofs of this crate's functions need.
mod MarkLoop
