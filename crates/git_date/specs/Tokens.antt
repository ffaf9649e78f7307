-- Texts up to their first NUL, tokens, numbers and names.
pub mod Strings
pub mod Tokens
pub mod Numbers
pub mod Names
pub mod Steps
