pub mod Rules
pub mod Entries
pub mod Promises
pub mod Examples
