-- Blocks of lines: how far one is read.
pub mod Cells
pub mod Columns
pub mod Idents
pub mod Parts
pub mod Steps
pub mod Told
