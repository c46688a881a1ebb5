pub mod Streams
pub mod Frames
pub mod Answers
pub mod Tables
pub mod Cuts
pub mod Promises
