pub mod Turns
pub mod Maps
