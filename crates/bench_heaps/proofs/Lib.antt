-- The table, computed.
pub mod Table
