-- What the approximate reader comes to.
pub mod Clocks
pub mod KeptDrafts
pub mod Places
pub mod ZoneClocks
