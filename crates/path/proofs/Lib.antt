pub mod Modules
pub mod Wrongs
