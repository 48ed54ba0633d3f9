pub mod Declares
pub mod Held
pub mod Laid
pub mod Lays
pub mod Refusals
