pub mod Text
pub mod Rules
pub mod Exact
pub mod Guesses
pub mod Printing
pub mod Formats
pub mod Rows
