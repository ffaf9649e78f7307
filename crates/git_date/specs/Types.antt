-- The names of types of the code, and of their variants, for other crates.
pub mod Names
pub mod AgeCases
pub mod DatedCases
pub mod FaultCases
pub mod MeaningCases
pub mod UnitCases
