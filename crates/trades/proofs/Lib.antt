pub mod Words
pub mod Cap
pub mod Snaps
pub mod TradeLaws
