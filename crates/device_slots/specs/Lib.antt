pub mod Slots
pub mod Standing
