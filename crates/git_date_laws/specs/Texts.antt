-- What laws say of texts: where a line may end, where the moment matters, which count seconds back, what is printed.
pub mod Lines
pub mod Moments
pub mod Back
pub mod Printed
