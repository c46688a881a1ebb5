pub mod Accepts
pub mod Repairs
pub mod Promises
