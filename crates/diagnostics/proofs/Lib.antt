pub mod Capacities
pub mod Tellings
