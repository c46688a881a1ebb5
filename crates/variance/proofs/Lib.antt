pub mod Turns
pub mod Variances
pub mod Runs
pub mod Promises
