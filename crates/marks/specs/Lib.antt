-- Definitions: what mark, cut and rollback come to.
pub mod Unbind
pub mod Calls
-- What a rollback leaves keeps the rules exactly when one pass over it finds no fault.
pub mod Left
pub mod Rolling
