pub mod Ways
pub mod Search
pub mod Cuts
pub mod CutsView
pub mod Asked
pub mod Functions
pub mod Ordered
