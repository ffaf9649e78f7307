-- What the rules leave, and what they read.
pub mod Kept
pub mod EnoughSteps
pub mod Months
pub mod HeldClocks
pub mod ClocksBack
pub mod Saturated
pub mod Conditions
