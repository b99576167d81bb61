pub mod Bytes
pub mod Version
pub mod Codes
pub mod Rows
pub mod Checks
