-- The words of definitions. Made by scripts/words.
pub mod Authored
pub use Authored.{IsAuthored}
