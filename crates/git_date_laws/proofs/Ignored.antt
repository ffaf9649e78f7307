-- What readers ignore.
pub mod Unused
pub mod UnusedDrafts
