-- Definitions: calls, histories, what is struck, and what is promised.
pub mod History
pub mod Law
pub mod Promise
-- What the proof stands on.
pub mod Kept
pub mod Ext
pub mod Grown
pub mod Keeps
