pub mod Totals
pub mod Shown
pub mod Judged
pub mod Figures
pub mod Outside
pub mod Raised
pub mod Promises
