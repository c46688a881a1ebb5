pub mod Lines
pub mod Figures
pub mod Pattern
pub mod Walk
