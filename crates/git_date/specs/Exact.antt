-- What the exact reader makes of a text.
pub mod Reading
pub mod Zones
pub mod RuleYears
pub mod ZoneTexts
pub mod Places
pub mod Decimals
pub mod Outcome
pub mod Fast
pub mod Computing
