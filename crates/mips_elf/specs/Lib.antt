pub mod Header
pub mod Segments
pub mod Symbols
pub mod Images
