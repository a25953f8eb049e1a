pub mod Members
pub mod Counting
pub mod Units
pub mod Charged
pub mod Fetching
pub mod Walking
