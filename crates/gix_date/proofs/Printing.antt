-- What is printed of a time, and what comes back.
pub mod Printing
pub mod ShownPieces
pub mod NamedTexts
pub mod ReadBack
pub mod PrintedBack
pub mod PrintedTimes
pub mod RawBack
pub mod LocalClocks
pub mod ShownTexts
pub mod Appended
pub mod Pairs
pub mod FormatTable
pub mod Patterns
pub mod Seconds
