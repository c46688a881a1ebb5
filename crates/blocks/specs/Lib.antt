pub mod Areas
pub mod Table
pub mod Recode
pub mod Walk
