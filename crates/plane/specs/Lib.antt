pub mod Plane
pub mod Walk
