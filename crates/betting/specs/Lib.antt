pub mod Accounts
pub mod Examples
pub mod Limits
pub mod Policies
pub mod Shrinks
pub mod Sums
