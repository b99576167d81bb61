pub mod Flags
pub mod Made
pub mod Stored
pub mod Record
pub mod Fields
pub mod Back
pub mod Spliced
pub mod Left
