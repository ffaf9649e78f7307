-- Letter case.
pub mod LetterCase
pub mod WhiteSpace
