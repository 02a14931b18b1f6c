pub mod TradeVerdicts
pub mod Tests
