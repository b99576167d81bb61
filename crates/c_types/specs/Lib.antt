pub mod Numbers
pub mod Lent
pub mod Version
