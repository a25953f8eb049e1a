pub mod Kept
pub mod InTime
pub mod Same
