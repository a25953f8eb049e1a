pub mod Registers
pub mod Shown
pub mod Counting
