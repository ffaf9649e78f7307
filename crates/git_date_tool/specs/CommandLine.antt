-- What the words of a command line ask for, and what may be wrong with them.
pub mod Wrong
pub mod Command
pub mod Now
