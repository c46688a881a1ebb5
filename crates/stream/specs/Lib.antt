pub mod Fields
pub mod Stream
pub mod Job
pub mod Walk
