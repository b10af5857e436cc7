pub mod Fronts
pub mod Risks
pub mod Settled
pub mod Tests
