pub mod Resolves
