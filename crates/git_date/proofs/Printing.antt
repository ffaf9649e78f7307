-- What is shown.
pub mod ShownClocks
pub mod WrittenOffsets
