pub mod Same
pub mod InForce
pub mod Alike
pub mod Variants
pub mod Sequences
pub mod Floors
pub mod Examples
