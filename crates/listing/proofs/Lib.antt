pub mod Scans
pub mod Cuts
pub mod Walked
pub mod Listings
pub mod Paths
