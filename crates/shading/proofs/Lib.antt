pub mod Numbers
pub mod Judging
pub mod Shades
pub mod Machine
pub mod Entries
pub mod Walks
pub mod Limits
pub mod Promises
