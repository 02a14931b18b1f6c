pub mod Rows
pub mod Noting
