pub mod Headers
pub mod Taking
pub mod Judged
pub mod Served
pub mod Streams
pub mod Reported
pub mod Rows
