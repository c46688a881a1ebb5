pub mod Find
pub mod Walk
