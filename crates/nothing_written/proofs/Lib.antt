pub mod Unwriting
