-- Laws that only the proofs of this crate's functions need.
mod AllOf
mod Walked
