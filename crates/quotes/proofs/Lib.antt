pub mod QuoteLaws
pub mod StatusLaws
