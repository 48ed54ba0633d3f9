pub mod Decided
pub mod Ends
pub mod Scans
