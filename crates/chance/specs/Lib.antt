pub mod Sequences
pub mod Tree
pub mod Ville
