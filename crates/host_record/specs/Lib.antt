pub mod Record
pub mod Spare
pub mod Fits
