pub mod Turns
pub mod Adds
pub mod Frames
pub mod Extremes
pub mod Runs
pub mod Promises
