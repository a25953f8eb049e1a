pub mod Charges
pub mod Counts
pub mod Fetches
pub mod Scopes
