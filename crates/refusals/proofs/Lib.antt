pub mod Searches
pub mod Chains
pub mod Ranges
pub mod Judges
pub mod OwnRefusals
pub mod Frames
