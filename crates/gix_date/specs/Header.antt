-- Commit headers: how their times are written and read.
pub mod Text
pub mod Reading
pub mod Canonical
pub mod Laws
pub mod TimeBuf
pub mod CanonicalBytes
