pub mod Nears
pub mod Turns
pub mod Flips
