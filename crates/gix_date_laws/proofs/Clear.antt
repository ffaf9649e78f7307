-- Careful relative texts: count, unit and `ago`.
pub mod Scan
pub mod Pieces
pub mod Counts
pub mod Units
pub mod Words
pub mod NoGit
pub mod Dates
pub mod Grammar
pub mod Rows
