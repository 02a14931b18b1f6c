pub mod Excuses
