pub mod Root
pub mod Quotient
pub mod Bound
