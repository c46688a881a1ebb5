pub mod Sum
pub mod First
pub mod Greatest
pub mod Table
pub mod Signed
