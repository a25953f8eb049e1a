pub mod Ranges
pub mod Filling
pub mod Wanting
pub mod Layouts
