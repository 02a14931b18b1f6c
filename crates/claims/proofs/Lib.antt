pub mod Facts
pub mod Words
pub mod Lines
pub mod Cancelling
pub mod Withdrawing
pub mod Due
pub mod TradeLines
