-- Relative texts and what they name.
pub mod QuietWords
pub mod QuietDates
pub mod RelativeWordSteps
pub mod RelativeCounts
pub mod CountRuns
pub mod RelativeScans
pub mod RolePlaces
pub mod RelativeReading
pub mod Steps
pub mod FixedZones
pub mod Chains
pub mod FixedSteps
pub mod FixedSeconds
pub mod FixedTimes
