pub mod Progress
pub mod Course
pub mod Kept
pub mod Views
pub mod Ends
pub mod Fits
pub mod Loop
