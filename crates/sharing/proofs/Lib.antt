pub mod Turns
pub mod Rounds
pub mod Shares
