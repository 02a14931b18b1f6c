pub mod HomeQuotes
pub mod Tests
