pub mod Filled
pub mod Places
