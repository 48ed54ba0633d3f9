pub mod Checks
pub mod Prohibits
pub mod Words
