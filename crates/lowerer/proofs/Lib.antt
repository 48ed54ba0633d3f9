pub mod Defaulting
pub mod Filled
pub mod Unwritten
