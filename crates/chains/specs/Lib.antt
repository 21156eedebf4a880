-- Definitions: chains of Vars, what is remembered of them, how long a work buffer has to be, and how it is left.
pub mod Chains
pub mod Work
-- Laws: words that become 0, and what is remembered stays true, also where a variable is bound.
pub mod Cleared
pub mod Hops
pub mod Bind
