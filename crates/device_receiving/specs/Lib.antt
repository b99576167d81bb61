pub mod Content
pub mod Finish
pub mod Receive
