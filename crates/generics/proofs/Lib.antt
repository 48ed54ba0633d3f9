pub mod Appended
pub mod Found
pub mod Grown
pub mod Ordered
pub mod Sizes
pub mod Slotted
pub mod Tallied
pub mod Walked
