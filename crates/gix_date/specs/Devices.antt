-- Sinks and sources, and the texts that are lent and copied.
pub mod StreamState
pub mod Device
pub mod Lending
pub mod InputBytes
