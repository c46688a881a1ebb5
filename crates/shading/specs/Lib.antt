pub mod OfRatio
pub mod Shade
pub mod Judge
pub mod Walk
