-- What a text is answered by: readers, refusals, what is shown of a date, and warnings.
pub mod Refusals
pub mod Readers
pub mod Shown
pub mod Warnings
pub mod Replies
