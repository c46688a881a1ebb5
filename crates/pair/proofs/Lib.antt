pub mod Walk
pub mod Spreads
pub mod Accepts
pub mod Answers
pub mod Promises
pub mod RankPromises
