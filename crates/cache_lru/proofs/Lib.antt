pub mod Lines
pub mod Touches
pub mod Once
