pub mod Counts
pub mod Games
