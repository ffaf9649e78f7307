pub mod Numbers
pub mod Letters
pub mod Git
pub mod Shared
pub mod Pairs
pub mod Printing
pub mod Clear
pub mod Whole
