pub mod Blinking
pub mod Jumps
