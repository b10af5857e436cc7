pub mod Cuts
pub mod Pencil
pub mod Quotients
pub mod Runs
