pub mod After
pub mod Add
pub mod Run
