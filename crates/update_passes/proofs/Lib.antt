pub mod Tests
pub mod Sets
pub mod Pass
pub mod Passes
