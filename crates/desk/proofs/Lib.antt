pub mod Exports
pub mod Records
pub mod Settled
