pub mod Coded
pub mod Costs
pub mod Ends
