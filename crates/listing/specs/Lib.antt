pub mod Nesting
pub mod Pieces
pub mod Answered
pub mod Blanks
pub mod Arguments
pub mod Tokens
pub mod Words
