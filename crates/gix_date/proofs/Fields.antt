-- Fields of dates, clocks and offsets, and layouts.
pub mod FieldsRead
pub mod FieldsTaken
pub mod ColonOffsets
pub mod Layouts
pub mod AfterDay
pub mod NamesRead
pub mod ThreeLetters
pub mod DateTimes
pub mod Instants
