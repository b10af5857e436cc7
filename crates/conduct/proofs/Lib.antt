pub mod Conducts
pub mod Escalations
pub mod Tails
