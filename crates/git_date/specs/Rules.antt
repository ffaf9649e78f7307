-- What tokens say: the rules of both readers.
pub mod Fields
pub mod Words
pub mod Clocks
pub mod Dates
pub mod Groups
pub mod Views
pub mod Digits
pub mod Offsets
