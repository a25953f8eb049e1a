pub mod Counts
pub mod Choice
pub mod Held
