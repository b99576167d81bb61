pub mod Words
pub mod Record
pub mod Contents
pub mod Kept
