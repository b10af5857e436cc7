pub mod Conducts
