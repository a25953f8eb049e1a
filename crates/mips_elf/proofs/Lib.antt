pub mod Overlaps
pub mod Tables
pub mod Loads
pub mod Filled
pub mod OneAnswer
