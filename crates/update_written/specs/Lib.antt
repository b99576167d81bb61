pub mod Stages
pub mod Bench
