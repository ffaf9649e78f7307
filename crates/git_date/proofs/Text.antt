-- How a text is cut into tokens, and which words stand in tables.
pub mod StringEnds
pub mod TokenRuns
pub mod Whites
pub mod Walked
pub mod Folds
pub mod Tables
