pub mod Layout
pub mod Rows
