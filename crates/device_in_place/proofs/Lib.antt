pub mod Walks
pub mod Stands
pub mod Left
