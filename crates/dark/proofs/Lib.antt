pub mod Levels
pub mod Turns
pub mod Promises
