pub mod Reaching
pub mod Stored
pub mod Variabled
