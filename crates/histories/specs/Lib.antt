-- A run of calls with their work buffer, and the promise.
pub mod Calls
pub mod Demand3
-- Why it holds: only the length of the work buffer counts, unify and copy obey the law of a replay, and lengths are kept.
pub mod Work
pub mod Fixed
