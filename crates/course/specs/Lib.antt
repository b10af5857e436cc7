pub mod Terms
pub mod Course
pub mod Scripts
pub mod Bounds
pub mod Example
pub mod Laws
pub mod Openings
pub mod Promise
