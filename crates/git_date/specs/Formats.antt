-- Dates by a pattern.
pub mod Directives
pub mod Numbers
pub mod Flags
pub mod Names
pub mod Texts
pub mod Pieces
pub mod Shown
pub mod Format
pub mod Short
