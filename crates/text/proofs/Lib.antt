pub mod Lent
pub mod Decimal
pub mod Lines
