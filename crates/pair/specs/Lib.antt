pub mod Walk
pub mod Figures
pub mod Pair
