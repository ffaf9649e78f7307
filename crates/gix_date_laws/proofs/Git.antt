-- Git's own forms: how they are written.
pub mod Clocks
pub mod Offsets
pub mod Cuts
pub mod Grammar
