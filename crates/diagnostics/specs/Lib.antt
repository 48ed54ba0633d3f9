pub mod Lists
pub mod Tells
pub mod Words
