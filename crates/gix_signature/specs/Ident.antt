-- Identity lines, as Git itself reads, judges and writes them.
pub mod Bytes
pub mod Texts
pub mod Parts
pub mod Times
pub mod Fsck
pub mod Due
pub mod Again
pub mod Usual
pub mod Laws
