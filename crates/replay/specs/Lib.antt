pub mod Replays
pub mod Following
