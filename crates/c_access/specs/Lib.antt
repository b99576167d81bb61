pub mod Access
pub mod Promises
