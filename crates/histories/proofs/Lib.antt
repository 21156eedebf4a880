-- Unify and copy obey the law of a replay.
pub mod Obeyed
-- The promise, and a worked history.
pub mod Demand3
pub mod Example
