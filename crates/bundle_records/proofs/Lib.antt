pub mod Parts
pub mod Heads
pub mod Parsing
pub mod Written
pub mod Walks
