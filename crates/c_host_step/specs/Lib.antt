pub mod Step
pub mod Sessions
