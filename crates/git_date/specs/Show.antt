-- What is shown of a time.
pub mod Modes
pub mod Clocks
pub mod Ages
pub mod Texts
pub mod Human
pub mod Dates
pub mod OwnDates
