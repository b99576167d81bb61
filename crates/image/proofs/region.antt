pub mod Within
pub mod Lent
