-- Laws that only the proofs of this crate's functions need.
mod Fields
mod Signed
