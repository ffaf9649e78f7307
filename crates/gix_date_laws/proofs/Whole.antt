-- Careful reading of whole texts.
pub mod Reading
pub mod Cases
