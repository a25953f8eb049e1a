pub mod Job
pub mod Run
pub mod Opens
pub mod Running
