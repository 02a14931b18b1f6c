pub mod Lines
pub mod Fills
pub mod Trades
pub mod Check
