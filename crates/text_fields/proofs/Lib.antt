pub mod LinesRead
pub mod Digits
