pub mod Runs
pub mod Planes
