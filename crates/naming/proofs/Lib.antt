pub mod Resolving
pub mod Searched
