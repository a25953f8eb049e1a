pub mod Steps
pub mod Potential
pub mod After
pub mod Static
pub mod Sums
pub mod Ending
pub mod Loop
