-- Relative texts: their words, and the times that they name.
pub mod Words
pub mod Roles
pub mod Steps
pub mod Dates
pub mod FixedZones
pub mod Pairs
pub mod PairsRead
pub mod Scan
