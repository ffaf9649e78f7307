-- Git's own forms of a date.
pub mod ClockCut
pub mod Clock
pub mod Forms
pub mod Cuts
pub mod Grammar
