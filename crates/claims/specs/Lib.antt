pub mod Facts
pub mod Lines
pub mod Books
