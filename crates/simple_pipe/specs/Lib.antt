pub mod Times
pub mod Cost
pub mod Pace
pub mod Simple
pub mod Pipe
pub mod Parts
pub mod Run
