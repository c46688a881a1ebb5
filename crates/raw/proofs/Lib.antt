pub mod Samples
pub mod Unpacks
pub mod Promises
