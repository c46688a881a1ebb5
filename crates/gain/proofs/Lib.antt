pub mod Slopes
pub mod Walks
pub mod Calls
pub mod Promises
