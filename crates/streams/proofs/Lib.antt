mod Rows
pub mod Splitting
pub mod ByteBlocks
pub mod HeaderLines
pub mod Sending
pub mod Reporting
pub mod Taking
pub mod Running
