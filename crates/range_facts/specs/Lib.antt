pub mod Ranges
pub mod Refining
pub mod Transfer
pub mod Along
pub mod Fit
