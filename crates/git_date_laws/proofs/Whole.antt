-- Answers to whole texts.
pub mod Guesses
pub mod EveryZone
pub mod Understood
pub mod FormatModes
pub mod Headline
