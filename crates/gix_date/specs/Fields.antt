-- The fields of dates, clocks and offsets, how they are read and written; and instants, as `jiff` has them.
pub mod ClockNumbers
pub mod Offsets
pub mod DateFields
pub mod DateOffsets
pub mod FieldTexts
pub mod Layout
pub mod Civil
pub mod Zoned
