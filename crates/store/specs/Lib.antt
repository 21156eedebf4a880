-- Definitions: a well-formed store, and what following answers.
pub mod All
pub mod Store
pub mod Follow
pub mod Survey
-- Laws of them.
pub mod Zeros
pub mod Part
pub mod Steps
pub mod Pigeon
pub mod Ends
pub mod Turns
pub mod Walk
pub mod WellFormed
pub mod Over
