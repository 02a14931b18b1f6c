pub mod OwnFills
pub mod Written
