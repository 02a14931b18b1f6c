pub mod Groups
pub mod Reading
pub mod Near
pub mod Writing
pub mod RoundTrip
pub mod Settled
