pub mod Judging
pub mod Tests
