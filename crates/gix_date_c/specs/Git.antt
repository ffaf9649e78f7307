-- Git's dates, as C has them.
pub mod Ages
pub mod Dates
pub mod Formats
pub mod Modes
pub mod Own
