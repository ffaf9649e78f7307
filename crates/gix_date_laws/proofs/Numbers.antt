-- Numbers in digits, and white space round texts.
pub mod Grammars
pub mod AroundTexts
