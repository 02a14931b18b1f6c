pub mod Words
pub mod Lines
pub mod Places
pub mod Rule
