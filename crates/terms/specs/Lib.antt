-- Definitions: what a followed cell shows, terms, and the term that a cell stands for.
pub mod View
pub mod Term
pub mod Stands
-- Laws of them.
pub mod Shows
pub mod Finite
