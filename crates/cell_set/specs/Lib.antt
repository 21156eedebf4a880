-- Definitions: the bit of a cell, and the table with a cell noted. Laws of them.
pub mod Table
