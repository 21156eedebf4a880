-- The proof.
pub mod Ext
pub mod Theorem
-- The promise.
pub mod Promise
-- The striking rule on small histories.
pub mod Example
