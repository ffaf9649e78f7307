-- Dates by a pattern.
pub mod Names
pub mod Letters
pub mod Pieces
pub mod Shown
pub mod Walks
pub mod Short
pub mod Usual
