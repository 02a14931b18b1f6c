pub mod BestPrices
pub mod Tests
