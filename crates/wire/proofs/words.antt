pub mod Laws
pub mod Copies
pub mod Sames
