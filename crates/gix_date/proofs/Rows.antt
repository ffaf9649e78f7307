-- Worked rows of the definitions.
pub mod ClockRows
pub mod HeaderRows
pub mod GitRows
pub mod PatternRows
pub mod PrintRows
pub mod RelativeRows
pub mod ShapeRows
pub mod Tables
