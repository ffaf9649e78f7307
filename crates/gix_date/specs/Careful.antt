-- Dates for callers that must not guess.
pub mod Fronts
pub mod Dates
pub mod Texts
pub mod Grammar
pub mod Outcome
pub mod Laws
