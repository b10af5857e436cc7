pub mod Commands
pub mod Ends
pub mod Made
