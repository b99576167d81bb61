pub mod Limits
pub mod Accepted
pub mod Tiles
pub mod Layouts
pub mod Told
pub mod Entries
