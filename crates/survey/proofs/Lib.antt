pub mod Surveying
pub mod Quoting
pub mod Looping
pub mod Beginning
