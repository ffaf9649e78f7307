-- Texts that are read alike: in other letter case, with more after a line feed, and at other moments.
pub mod Spelling
pub mod Changed
pub mod ChangedSteps
pub mod Cuts
pub mod Texts
pub mod ApproximateTexts
pub mod Cases
pub mod Recent
pub mod Moments
pub mod Apart
