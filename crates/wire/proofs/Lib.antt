pub mod Tests
pub mod Chain
pub mod Pieces
pub mod Bounds
