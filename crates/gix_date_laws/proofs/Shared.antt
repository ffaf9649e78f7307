-- Which families share texts, and whose answer comes first.
pub mod FirstFamily
pub mod Agreement
