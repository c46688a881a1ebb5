pub mod Roots
pub mod Newton
pub mod Rounding
pub mod Quotients
pub mod Orders
pub mod Division
pub mod Noises
pub mod Ranks
