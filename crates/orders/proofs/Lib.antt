pub mod OrderVerdicts
