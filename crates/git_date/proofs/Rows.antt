-- Definitions on worked texts: each row computes.
pub mod RowMoment
pub mod ApproximateRows
pub mod RelativeRows
pub mod ChangedFlagRows
pub mod ReadRows
pub mod ShowRows
pub mod SearchRows
pub mod DecimalRows
pub mod FormatRows
