pub mod Commands
pub mod Parser
pub mod Reading
