pub mod InPlace
pub mod Inside
pub mod Promises
