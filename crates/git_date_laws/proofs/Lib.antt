pub mod Alike
pub mod Back
pub mod Printing
pub mod Whole
mod Ignored
mod Agreement
mod Rows
