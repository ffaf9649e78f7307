-- Careful reading: when it refuses, and that what it reads is clear.
pub mod Failures
pub mod Unzoned
pub mod Clear
pub mod WholeWords
pub mod LeftTexts
