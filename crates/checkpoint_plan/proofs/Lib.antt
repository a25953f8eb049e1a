pub mod Rems
pub mod Sums
pub mod Fits
