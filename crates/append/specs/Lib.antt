-- Definitions: words laid over a list, and what appending comes to.
pub mod Laid
pub mod Calls
-- What it comes to, case by case.
pub mod Appending
