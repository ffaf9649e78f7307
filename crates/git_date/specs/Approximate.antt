-- What the approximate reader makes of a text.
pub mod Words
pub mod Clocks
pub mod Drafts
pub mod Zones
pub mod Rules
pub mod Reading
pub mod Expiry
pub mod Computing
