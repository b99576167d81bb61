pub mod Given
pub mod Entry
