-- Git's own forms.
pub mod ClockCuts
pub mod ClockParts
pub mod Fronts
pub mod UsualClocks
