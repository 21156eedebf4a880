-- A row, what it says, and the test of it; and the table.
pub mod Row
pub mod Table
