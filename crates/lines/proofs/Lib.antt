pub mod Pools
pub mod Marking
pub mod Shifts
pub mod Turns
pub mod Promises
