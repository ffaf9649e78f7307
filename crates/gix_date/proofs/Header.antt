-- Commit headers.
pub mod HeaderLaws
pub mod HeaderTexts
