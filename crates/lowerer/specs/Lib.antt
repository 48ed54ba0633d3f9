pub mod Fits
pub mod Meanings
pub mod Spends
