-- The families of texts that a date may have.
pub mod Answer
pub mod Epoch
pub mod Raw
pub mod Patterns
pub mod Order
pub mod Shapes
pub mod Laws
pub mod AfterDay
pub mod Usual
