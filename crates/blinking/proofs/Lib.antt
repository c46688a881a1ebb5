pub mod Blinkings
pub mod Counts
pub mod Jumps
pub mod Promises
