-- Laws that only the proofs of this crate's functions need.
mod ByKind
mod Count
mod Walking
mod Going
-- No copy needs more room than the most.
pub mod Most
