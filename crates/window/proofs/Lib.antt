pub mod Sides
pub mod Walks
pub mod Views
