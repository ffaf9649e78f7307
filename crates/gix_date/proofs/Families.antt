-- The families of texts, their order and what they share.
pub mod Apart
pub mod Disjoint
pub mod Exclusive
pub mod Shapes
