-- Times as texts: what each format prints, and what is parsed back.
pub mod LocalClocks
pub mod Formats
pub mod NamedTexts
pub mod NamedFormats
pub mod PrintedTimes
pub mod Patterns
pub mod ReadingBack
pub mod FormatBuf
