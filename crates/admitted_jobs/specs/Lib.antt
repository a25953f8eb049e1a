pub mod Ready
pub mod Jobs
