-- What passes between C and the library: texts, times, statuses, and the places of refusals.
pub mod Statuses
pub mod Refusals
pub mod Stores
pub mod Buffers
pub mod Times
