pub mod Executed
pub mod SubTasks
pub mod Known
pub mod Ways
pub mod Bounds
pub mod Admitted
pub mod Runs
