-- The words of definitions. Made by scripts/words.
pub mod AnyZone
unfoldable pub use AnyZone.{IsWord, NamesInstant}
