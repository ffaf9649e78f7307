-- Where `gix_date` and `git_date` read the same time.
pub mod Steps
pub mod Mail
pub mod Dates
pub mod Parts
pub mod Fields
pub mod Seconds
pub mod Words
pub mod Numbers
pub mod Answers
pub mod Agreed
