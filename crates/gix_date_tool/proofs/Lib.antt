pub mod Serving
pub mod Signing
pub mod Replying
pub mod CanonicalLines
pub mod UnchangedLines
pub mod Fronts
pub mod Sent
