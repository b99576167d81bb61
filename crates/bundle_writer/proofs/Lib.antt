pub mod Puts
pub mod Taken
pub mod Promises
pub mod Refusals
pub mod Bench
