-- Texts that go back from now, and zones.
pub mod FixedZones
pub mod ExactBack
pub mod ExactNothing
pub mod Zones
pub mod ClockRead
