pub mod OrderLaws
pub mod ChainLaws
pub mod Words
pub mod Sweep
pub mod Look
pub mod Steps
