pub mod Entries
pub mod Numbers
pub mod Shown
pub mod Stores
