-- Zones, and the files that hold them.
pub mod Files
pub mod Zones
