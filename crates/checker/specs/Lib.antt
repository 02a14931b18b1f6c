pub mod Beside
pub mod Check
