pub mod Machine
pub mod Units
