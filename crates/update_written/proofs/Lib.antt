pub mod ReadBack
pub mod Stages
pub mod Bench
