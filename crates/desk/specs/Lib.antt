pub mod Exports
pub mod Records
