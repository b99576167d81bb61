pub mod Bundle
pub mod Rows
pub mod Answer
pub mod Promises
pub mod Bench
