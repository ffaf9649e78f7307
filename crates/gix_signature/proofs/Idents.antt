-- Identity lines: how they are shown, judged, and written again.
pub mod Again
pub mod Fronts
pub mod Judged
pub mod Near
pub mod Passing
pub mod Places
pub mod Shown
pub mod Usual
pub mod UsualDates
