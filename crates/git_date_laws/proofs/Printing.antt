-- What is shown, and read again.
pub mod ShownLaws
pub mod PrintedBack
pub mod RawBack
pub mod SecondsAlone
pub mod FormatLaws
pub mod FormatSteps
pub mod JoinedFormats
