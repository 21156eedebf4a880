-- Parent words and where climbing along them ends; the classes they keep, and what the calls promise of them.
pub mod Forest
pub mod Classes
