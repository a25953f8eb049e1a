pub mod Graphs
pub mod Running
