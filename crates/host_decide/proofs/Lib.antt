pub mod Hands
pub mod Heard
pub mod Moves
