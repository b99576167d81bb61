pub mod Loops
pub mod Searches
pub mod Members
pub mod Laws
