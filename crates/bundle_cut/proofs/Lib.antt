pub mod Runs
pub mod Pieces
pub mod Order
pub mod Longest
pub mod Rule
pub mod Bounds
pub mod Only
pub mod Steps
