pub mod Definitions
pub mod Follows
pub mod Rules
pub mod Terms
