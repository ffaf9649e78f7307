-- Texts: characters, places, numbers and words.
pub mod KnownBytes
pub mod AsciiCuts
pub mod AsciiBlocks
pub mod WordSteps
pub mod ShortDigits
pub mod WordsWithin
pub mod FirstWords
pub mod Places
pub mod FirstBytes
pub mod Ints
pub mod Decimals
pub mod Texts
pub mod LongNames
pub mod LastPlaces
pub mod Trimmed
