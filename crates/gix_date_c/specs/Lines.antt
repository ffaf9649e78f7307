-- Blocks of lines, as they are read for C.
pub mod Columns
pub mod Blocks
pub mod Readers
pub mod Idents
