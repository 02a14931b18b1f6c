pub mod Judging
pub mod Keeping
