pub mod Fits
pub mod Moves
pub mod Parts
pub mod Refusals
pub mod Verdicts
pub mod Escalations
pub mod Plans
pub mod Openings
