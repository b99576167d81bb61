pub mod Bench
pub mod Layouts
pub mod Packets
pub mod ReadBack
pub mod Written
