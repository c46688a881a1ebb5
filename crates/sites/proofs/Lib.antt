pub mod Accepts
pub mod Totals
pub mod Finds
pub mod Rows
pub mod Marks
pub mod Promises
