-- Texts: their characters, names, numbers and words.
pub mod Characters
pub mod Names
pub mod LongNames
pub mod Numbers
pub mod SpaceWords
pub mod Places
pub mod Front
