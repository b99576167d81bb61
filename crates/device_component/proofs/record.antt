pub mod Fits
pub mod Ranges
