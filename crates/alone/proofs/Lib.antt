pub mod Copies
pub mod Judging
pub mod Reading
pub mod Writing
pub mod Settled
pub mod Tests
