pub mod Sites
pub mod Turns
pub mod Promises
