pub mod Slope
pub mod Gain
pub mod Walk
