pub mod Record
pub mod Versions
pub mod Lists
pub mod Setup
pub mod Rules
